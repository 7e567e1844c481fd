-- The three pairs of three factors.
use Rattle.std.proofs.Common.{Bool, Ok, Result, false, map, true, ◌&&◌, ◌≡◌}
use Rattle.mb_kinds.specs.Generators.{factors_named, is_among, margins_model}
use Rattle.mb_kinds.specs.KindLaws.{RaschIsHierarchical}
use Rattle.mb_kinds.specs.Kinds.{are_apart, pairs_of, so_or}
use Rattle.mb_kinds.specs.Model.{ModelValue}
use Rattle.mb_kinds.specs.declared.kind_fault.KindFault.{KindFault}
use Rattle.mb_kinds.specs.declared.kind_fault.KindFault.TheVariants.{EmptyGenerators, NotBinary, UnknownFactor}

-- three names are known exactly where those of the pairs are
by_names : (a b c d : Bool) (made : Result ModelValue KindFault) (model : ModelValue)
    → so_or (a && (b && (c && true))) UnknownFactor (so_or d NotBinary made) ≡ Ok model
    → so_or ((a && (b && true)) && ((a && (c && true)) && ((b && (c && true)) && true)))
    UnknownFactor
    (so_or true EmptyGenerators made) ≡ Ok model
by_names true true true true made model e = e
by_names true true true false made model e = cc
by_names true true false d made model e = cc
by_names true false c d made model e = cc
by_names false b c d made model e = cc

-- the Rasch model is the hierarchical one of the pairs
pub rasch_pairs : RaschIsHierarchical
rasch_pairs table person item response base model e =
    by_names (is_among table.factors person) (is_among table.factors item)
    (is_among table.factors response)
    (are_apart table person item response)
    (margins_model table (map (factors_named table.factors) (pairs_of person item response)) base)
    model e
