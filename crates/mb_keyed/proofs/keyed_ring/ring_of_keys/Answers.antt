use Rattle.std.proofs.Common.{List, map, subst, ◌∙◌}
use Rattle.std.proofs.lemmas.List.Sorted.{IsPermutation-map, IsPermutation-sym}
use Rattle.std.proofs.lemmas.List.{length-map}
use Rattle.std.specs.List.Sorted.{IsPermutation}
use Rattle.mb_keyed.proofs.KeyOrders.{In-permuted}
use Rattle.mb_keyed.proofs.KeyedTables.{ascends-read, count-read, keys-read}
use Rattle.mb_keyed.proofs.RingTables.{keys-ordered}
use Rattle.mb_keyed.proofs.keyed_ring.ring_of_keys.Given as given
use Rattle.mb_keyed.proofs.keyed_ring.ring_of_keys.Goals as goal
use Rattle.mb_keyed.proofs.keyed_ring.ring_of_keys.Goals.{After-drop-order-2}
use Rattle.mb_keyed.specs.declared.ranked.Ranked.{Ranked}
use Rattle.mb_keyed.specs.loops.Keyed.{digits_in}
use Rattle.mb_keyed.specs.loops.ReadRing.{AreReadAs}
use Rattle.mb_keyed.specs.loops.Worked.{keys_in}
use Rattle.mb_matrix.specs.Key.{key_of}
use Rattle.mb_rings.proofs.DistinctTables.{permutation-In}
use Rattle.mb_tables.specs.Lists.{In}

pub read_tables-requires-clause-there : goal.read_tables-requires-clause-there
read_tables-requires-clause-there g c κs within key i =
    let found = keys_in c.args.found.items in
    let order = keys_in c.sort_unstable_by_key.new.self.items in
    let sorted = IsPermutation-map (λ (r : Ranked). r.key) c.args.found.items
    c.sort_unstable_by_key.new.self.items c.sort_unstable_by_key.ensures.permutation in
    c.requires.there key
    (In-permuted key order found (IsPermutation-sym found order sorted)
    (subst (λ (list : List Ranked). In key (keys_in list)) c.as_slice.ensures.value i))

-- the tables are read in the order of the keys
read : (g : given.Over) (c : After-drop-order-2 g) →
    AreReadAs c.args.fiber.now (keys_in c.sort_unstable_by_key.new.self.items)
    c.in_ok-tables.tables.items
read g c =
    subst (λ (list : List Ranked). AreReadAs c.args.fiber.now (keys_in list)
    c.in_ok-tables.tables.items) c.as_slice.ensures.value c.in_ok-tables.ensures

-- the sorted tables have these keys
keys : (g : given.Over) (c : After-drop-order-2 g) →
    IsPermutation (keys_in c.args.found.items)
    (map (key_of (digits_in c.args.fiber.now)) c.sort.new.self.items)
keys g c =
    keys-ordered c.args.fiber.now (keys_in c.sort_unstable_by_key.new.self.items)
    c.in_ok-tables.tables.items (keys_in c.args.found.items) c.sort.new.self.items
    (IsPermutation-map (λ (r : Ranked). r.key) c.args.found.items
    c.sort_unstable_by_key.new.self.items c.sort_unstable_by_key.ensures.permutation)
    (read g c) c.sort.ensures.permutation

pub returns-clause-keys : goal.returns-clause-keys
returns-clause-keys g c =
    keys-read (digits_in c.args.fiber.now) (keys_in c.args.found.items) c.sort.new.self.items
    (keys g c)

pub returns-clause-fiber : goal.returns-clause-fiber
returns-clause-fiber g c v i =
    (read g c).each v
    (permutation-In c.in_ok-tables.tables.items c.sort.new.self.items v
    c.sort.ensures.permutation i)

pub returns-clause-ascends : goal.returns-clause-ascends
returns-clause-ascends g c =
    ascends-read (digits_in c.args.fiber.now) (keys_in c.args.found.items) c.sort.new.self.items
    (keys g c) c.requires.once c.in_ok-sort.ensures.sorted

pub returns-clause-count : goal.returns-clause-count
returns-clause-count g c =
    count-read (digits_in c.args.fiber.now) (keys_in c.args.found.items) c.sort.new.self.items
    (keys g c)
    ∙ length-map c.args.found.items (λ (r : Ranked). r.key)
