-- Two certificates, worked out by hand, over symbols t of the margin and x, y, z of the cells.
use Rattle.std.specs.Prelude.{[], negsuc, pos, ◌∷◌}
use Rattle.mb_certificate.specs.Certificate.{Certificate}
use Rattle.mb_order.specs.declared.order.Order.TheVariants.{Grevlex}

-- the matrix 1 2 and its rules x x to y and t to x, whose left sides share no symbol
unfoldable pub without_joins : Certificate
without_joins = record {
  matrix = record { rows = 1; columns = (1 ∷ []) ∷ (2 ∷ []) ∷ [] };
  order = Grevlex;
  moves = (pos 2 ∷ negsuc 0 ∷ []) ∷ [];
  rules = (0 ∷ 2 ∷ 0 ∷ [], 0 ∷ 0 ∷ 1 ∷ []) ∷ (1 ∷ 0 ∷ 0 ∷ [], 0 ∷ 1 ∷ 0 ∷ []) ∷ [];
  starts =
      (record { margin_steps = 1 ∷ []; cell_steps = [] })
      ∷ (record { margin_steps = 1 ∷ 1 ∷ 0 ∷ []; cell_steps = [] }) ∷ [];
  joins = [];
  paths = (record { rule = 0; steps = negsuc 0 ∷ [] }) ∷ [];
}

-- the matrix 1 2 3 and its reduced basis: y y to x z, x y to z, x x to y, and t to x. The path of
-- the first rule takes two moves, over x x y
unfoldable pub with_joins : Certificate
with_joins = record {
  matrix = record { rows = 1; columns = (1 ∷ []) ∷ (2 ∷ []) ∷ (3 ∷ []) ∷ [] };
  order = Grevlex;
  moves = (pos 1 ∷ pos 1 ∷ negsuc 0 ∷ []) ∷ (pos 2 ∷ negsuc 0 ∷ pos 0 ∷ []) ∷ [];
  rules =
      (0 ∷ 0 ∷ 2 ∷ 0 ∷ [], 0 ∷ 1 ∷ 0 ∷ 1 ∷ []) ∷ (0 ∷ 1 ∷ 1 ∷ 0 ∷ [], 0 ∷ 0 ∷ 0 ∷ 1 ∷ [])
      ∷ (0 ∷ 2 ∷ 0 ∷ 0 ∷ [], 0 ∷ 0 ∷ 1 ∷ 0 ∷ []) ∷ (1 ∷ 0 ∷ 0 ∷ 0 ∷ [], 0 ∷ 1 ∷ 0 ∷ 0 ∷ []) ∷ [];
  starts =
      (record { margin_steps = 3 ∷ []; cell_steps = [] })
      ∷ (record { margin_steps = 3 ∷ 3 ∷ 2 ∷ []; cell_steps = [] })
      ∷ (record { margin_steps = 3 ∷ 3 ∷ 2 ∷ 3 ∷ 1 ∷ []; cell_steps = [] }) ∷ [];
  joins =
      (record { low = 0; high = 1; low_steps = 2 ∷ []; high_steps = [] })
      ∷ (record { low = 1; high = 2; low_steps = []; high_steps = 0 ∷ [] }) ∷ [];
  paths =
      (record { rule = 0; steps = pos 2 ∷ negsuc 0 ∷ [] })
      ∷ (record { rule = 1; steps = negsuc 0 ∷ [] })
      ∷ (record { rule = 2; steps = negsuc 1 ∷ [] }) ∷ [];
}
