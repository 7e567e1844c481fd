-- The seats of a root and of a pass.
use Rattle.std.specs.Prelude.{[], ℕ, ◌≡◌}
use Rattle.atomic_table.specs.Table.{Me}
use Rattle.mb_claims.specs.Closed.{ClosesAll}
use Rattle.mb_claims.specs.View.{pass_of, root_of}
use Rattle.mb_claims.specs.declared.views.View.{View}
use Rattle.mb_claims.specs.declared.views.View.TheVariants.{OfPass, OfRoot}

-- the seat has a root's view and no slot, and where no pass is open, the root has gathered all that
-- it knows
pub record IsRootSeat (me : Me ℕ View) : Type 0 where
  pub view : me ≡ (OfRoot (root_of me.0), [])
  pub closed : ClosesAll (root_of me.0)

-- the seat has a pass's view and no slot
abbrev pub IsPassSeat : Me ℕ View → Type 0
IsPassSeat me = me ≡ (OfPass (pass_of me.0), [])
