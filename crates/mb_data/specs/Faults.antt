-- The cause of a refusal of a text.
use Rattle.std.specs.Prelude.{None, Option, Some}
use Rattle.mb_data.specs.declared.fault.DataFault.{DataFault}
use Rattle.mb_data.specs.declared.fault.DataFault.TheVariants.{OutOfMemory}

-- each fault is the text's, but for want of memory
abbrev pub cause : DataFault → Option DataFault
cause OutOfMemory = None
cause fault = Some fault
