-- What a loop over items has gathered.
use Rattle.std.specs.Prelude.{Err, List, Ok, Result, ◌++◌}
use Rattle.mb_kinds.specs.declared.kind_fault.KindFault.{KindFault}

-- values in front of those that the others give
abbrev pub gathered : {X : Type 0} → List X → Result (List X) KindFault → Result (List X) KindFault
gathered front (Ok xs) = Ok (front ++ xs)
gathered front (Err fault) = Err fault
