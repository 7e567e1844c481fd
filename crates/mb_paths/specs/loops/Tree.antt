-- The breadth-first search tree: the tables in the order in which they are met, each with the least
-- path to it.
use Rattle.std.specs.Prelude.{List, Some, [], length, map, slice_get, ℕ, ℤ, ◌++◌, ◌<◌, ◌≡◌, ◌∷◌, ◌⊎◌}
use Rattle.mb_certificate.specs.Valid.{MovesBy, Walks}
use Rattle.mb_rings.specs.ShortestPath.{IsLeastPath}
use Rattle.mb_rings.specs.loops.Before.{IsBefore, IsUpTo}
use Rattle.mb_rings.specs.loops.InTurn.{EachLater}
use Rattle.mb_tables.specs.Counts.{AreCounts}
use Rattle.mb_tables.specs.Lists.{In}

-- a table, and a path to it
pub record Node : Type 0 where
  pub path : List ℤ
  pub table : List ℕ

-- the tables of nodes
abbrev pub tables_in : List Node → List (List ℕ)
tables_in nodes = map (λ (x : Node). x.table) nodes

-- some node has this table, and a path that comes no later
pub record IsKnown (nodes : List Node) (path : List ℤ) (v : List ℕ) : Type 0 where
  pub node : Node
  pub there : In node nodes
  pub is : node.table ≡ v
  pub soon : IsUpTo node.path path

-- the node at a place is the first, or its path is that of its parent, which stands before it, and
-- one step more
pub record HasParent
    (moves : List (List ℤ)) (nodes : List Node) (parents : List ℕ) (b : ℕ) (y : Node)
    : Type 0 where
  pub place : ℕ
  pub parent : slice_get parents b ≡ Some place
  pub before : place < b
  pub node : Node
  pub is : slice_get nodes place ≡ Some node
  pub step : ℤ
  pub path : y.path ≡ node.path ++ step ∷ []
  pub made : MovesBy moves step node.table y.table

-- a tree of which so many nodes are expanded: each node's path leads to its table; those to be
-- expanded stand in the order of their paths, and no path that is found already comes after what
-- one of them leads to
pub record IsTree
    (moves : List (List ℤ)) (tables : List (List ℕ)) (parents : List ℕ) (expanded : ℕ)
    : Type 0 where
  pub start : List ℕ
  pub root : slice_get tables 0 ≡ Some start
  pub done : List Node
  pub todo : List Node
  pub listed : tables ≡ tables_in (done ++ todo)
  pub count : expanded ≡ length done
  pub begins : In (record { path = []; table = start }) (done ++ todo)
  pub walks : (x : Node) → In x (done ++ todo) → Walks moves x.path start x.table
  pub in_order : EachLater (λ (x y : Node). IsBefore x.path y.path) todo
  pub covered : (x : Node) → In x done → (step : ℤ) (v : List ℕ) → MovesBy moves step x.table v →
      AreCounts v → IsKnown (done ++ todo) (x.path ++ step ∷ []) v
  pub ahead : (x y : Node) → In x todo → In y (done ++ todo) → (step : ℤ) →
      IsBefore y.path (x.path ++ step ∷ [])
  pub each : length parents ≡ length (done ++ todo)
  pub born : (b : ℕ) (y : Node) → slice_get (done ++ todo) b ≡ Some y →
      (b ≡ 0) ⊎ HasParent moves (done ++ todo) parents b y

-- the least path from the start to u goes on by this step to the least path to v
abbrev pub GoesOnBy : List (List ℤ) → List ℕ → List ℕ → ℤ → List ℕ → Type 0
GoesOnBy moves start u step v =
    (path : List ℤ) → IsLeastPath moves start path u →
    IsLeastPath moves start (path ++ step ∷ []) v

-- it does so by some step, which makes v of u
abbrev pub GoesOn : List (List ℤ) → List ℕ → List ℕ → List ℕ → Type 0
GoesOn moves start u v =
    (step : ℤ) × MovesBy moves step u v × GoesOnBy moves start u step v

-- the table at a place has a parent: it stands before it, and the least path to it goes on to this
-- table
pub record IsBorn
    (moves : List (List ℤ)) (start : List ℕ) (tables : List (List ℕ)) (parents : List ℕ) (b : ℕ)
    (v : List ℕ) : Type 0 where
  pub place : ℕ
  pub parent : slice_get parents b ≡ Some place
  pub before : place < b
  pub table : List ℕ
  pub is : slice_get tables place ≡ Some table
  pub reached : (path : List ℤ) × IsLeastPath moves start path table
  pub goes_on : GoesOn moves start table v

-- the first table is the start, and every other one has a parent
pub record AreBorn
    (moves : List (List ℤ)) (start : List ℕ) (tables : List (List ℕ)) (parents : List ℕ)
    : Type 0 where
  pub root : slice_get tables 0 ≡ Some start
  pub each : (b : ℕ) (v : List ℕ) → slice_get tables b ≡ Some v →
      (b ≡ 0) ⊎ IsBorn moves start tables parents b v
