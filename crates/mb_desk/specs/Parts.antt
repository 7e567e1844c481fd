-- What a record can be written to a file as.
use Rattle.std.specs.Prelude.{List, codes, ℕ}
use Rattle.mb_registry.specs.declared.kinds.Kind.{Kind}
use Rattle.mb_registry.specs.declared.kinds.Kind.TheVariants as kinds
use Rattle.mb_desk.specs.declared.parts.Part.{Part}
use Rattle.mb_desk.specs.declared.parts.Part.TheVariants.{Certificate, Dataset, Matrix, Moves, Rules}

-- the word of a part
abbrev pub part_word : Part → List ℕ
part_word Dataset = codes "dataset"
part_word Matrix = codes "matrix"
part_word Moves = codes "moves"
part_word Certificate = codes "certificate"
part_word Rules = codes "rules"

-- the kind of the record that it is of
abbrev pub kind_of_part : Part → Kind
kind_of_part Dataset = kinds.Dataset
kind_of_part Matrix = kinds.Model
kind_of_part Moves = kinds.Basis
kind_of_part Certificate = kinds.Basis
kind_of_part Rules = kinds.Basis
