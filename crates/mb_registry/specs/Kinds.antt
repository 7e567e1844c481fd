-- The kinds of records.
use Rattle.std.specs.Prelude.{List, codes, ℕ}
use Rattle.mb_registry.specs.declared.kinds.Kind.{Kind}
use Rattle.mb_registry.specs.declared.kinds.Kind.TheVariants.{Analysis, Basis, Dataset, Model}
use Rattle.mb_outside.specs.Rows.{Key}

-- the number that the keeper knows a kind by
abbrev pub kind_number : Kind → ℕ
kind_number Dataset = 1
kind_number Model = 2
kind_number Basis = 3
kind_number Analysis = 4

-- the word of a kind
abbrev pub kind_word : Kind → List ℕ
kind_word Dataset = codes "dataset"
kind_word Model = codes "model"
kind_word Basis = codes "basis"
kind_word Analysis = codes "analysis"

-- the key of the record of a kind and a name
abbrev pub key_of : Kind → List ℕ → Key
key_of kind name = (kind_number kind, name)
