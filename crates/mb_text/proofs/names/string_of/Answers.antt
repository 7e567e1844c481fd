use Rattle.std.proofs.Common.{Ok, ap, sym}
use Rattle.mb_text.proofs.NameBytes.{name_is_text}
use Rattle.mb_text.proofs.names.string_of.Goals as goal

pub returns : goal.returns
returns c =
    ap Ok (sym (c.in_ok-from_utf8_lossy.ensures.ok (name_is_text c.args.name.now c.requires)))
