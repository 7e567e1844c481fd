use Rattle.std.proofs.Common.{refl}
use Rattle.mb_registry.proofs.Repeats.{again_unchanged}
use Rattle.mb_registry.proofs.laws.repeats_are_unchanged.Goals as goal
use Rattle.mb_registry.specs.Bodies.{body_of}
use Rattle.mb_registry.specs.Records.{kind_of, reference_of}

pub returns : goal.returns
returns c = record {
  again =
      λ name entry rows added e.
      again_unchanged (kind_of entry) name (reference_of entry) (body_of entry) rows added e;
  same = λ kind name body rows. refl;
}
