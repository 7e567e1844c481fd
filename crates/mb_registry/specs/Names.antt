-- Names of records.
use Rattle.std.specs.Prelude.{Err, List, None, Ok, Option, Result, Some, if◌then◌else◌, ℕ}
use Rattle.mb_registry.specs.declared.names.NameFault.{NameFault}
use Rattle.mb_registry.specs.declared.names.NameFault.TheVariants.{BadName, OutOfMemory}
use Rattle.mb_text.specs.Name.{is_name}

-- the name that a text is
abbrev pub named : List ℕ → Result (List ℕ) NameFault
named text = if is_name text then Ok text else Err BadName

-- the fault that a definition can answer; want of memory is none
abbrev pub name_cause : NameFault → Option NameFault
name_cause BadName = Some BadName
name_cause OutOfMemory = None
