-- The word of each key of a model file.
use Rattle.std.specs.Prelude.{List, codes, ℕ}
use Rattle.mb_kinds.specs.declared.kind_fault.ModelKey.{ModelKey}
use Rattle.mb_kinds.specs.declared.kind_fault.ModelKey.TheVariants.{Base, Classes, Generators, Item, Kind, Matrix, Person, Response, Scale}

-- the word of a key
abbrev pub key_word : ModelKey → List ℕ
key_word Kind = codes "kind"
key_word Generators = codes "generators"
key_word Person = codes "person"
key_word Item = codes "item"
key_word Response = codes "response"
key_word Classes = codes "classes"
key_word Matrix = codes "matrix"
key_word Scale = codes "scale"
key_word Base = codes "base"
