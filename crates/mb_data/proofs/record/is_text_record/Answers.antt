use Rattle.std.proofs.Common.{false, length, refl, rules, true, ◌<◌, ◌≡◌}
use Rattle.std.specs.Str.{is_utf8}
use Rattle.mb_data.proofs.HeaderSteps.{no_text, text_more}
use Rattle.mb_data.proofs.record.is_text_record.Goals as goal

pub returns-then-not-is_text : goal.returns-then-not-is_text
returns-then-not-is_text c =
    let none : is_utf8 c.field.result.now ≡ false = search rules in
    let within : c.loop-k.k < length c.args.records.now.fields = search rules in
    rw (no_text c.args.records.now.fields c.loop-k.k c.field.result.now within c.field.ensures none)
    refl

pub loop-k-preserved : goal.loop-k-preserved
loop-k-preserved c =
    let text : is_utf8 c.field.result.now ≡ true = search rules in
    let within : c.loop-k.k < length c.args.records.now.fields = search rules in
    text_more c.args.records.now.fields c.loop-k.k c.field.result.now within c.field.ensures text
    c.loop-k.invariant
