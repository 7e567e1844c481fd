-- What stands in the cache of a worker.
use Rattle.std.specs.Prelude.{List, ℕ}
use Rattle.mb_keyed.specs.declared.cache.Words.{Words}
use Rattle.mb_keyed.specs.declared.cache.Words.TheVariants.{Narrow, Wide}

-- the words of a cache, whatever their width
abbrev pub cached : Words → List ℕ
cached (Narrow words) = words.items
cached (Wide words) = words.items
