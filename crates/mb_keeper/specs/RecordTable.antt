-- The table of records: a kind, a name and a body in each row, and no two rows of one kind and
-- name.
use Rattle.std.specs.Prelude.{true, false, List, [], ◌∷◌, None, codes, ℕ}
use Rattle.sqlite.specs.Collation.TheVariants.{Binary}
use Rattle.sqlite.specs.Kind.{Kind}
use Rattle.sqlite.specs.Kind.TheVariants.{Integer, Text, Blob}
use Rattle.sqlite.specs.Schema.{Schema}
use Rattle.sqlite.specs.Table.{Table}
use Rattle.sqlite_schema.specs.declared.schema.Column.{Column}
use Rattle.sqlite.specs.declared.types.Value.TheVariants.{Null}
use Rattle.sqlite_value.specs.Keys.{plain}

-- a column of values of one kind, none of them null
abbrev pub filled : List ℕ → Kind → Column
filled name kind = record {
  name = name;
  kind = kind;
  is_strict = true;
  not_null = true;
  default = Null;
  collation = Binary;
}

-- the table
abbrev pub records : Table
records = record {
  name = codes "records";
  tree = 0;
  columns = filled (codes "kind") Integer ∷ filled (codes "name") Text
      ∷ filled (codes "body") Blob ∷ [];
  key = None;
  primary = 1 ∷ 2 ∷ [];
  uniques = (1 ∷ 2 ∷ []) ∷ [];
  orders = plain ∷ [];
  checks = [];
  references = [];
  computed = [];
  stamps = record { places = []; terms = []; formats = [] };
  is_counted = false;
}

-- the schema of the table alone, with the index of its key
abbrev pub records_schema : Schema
records_schema = record {
  tables = records ∷ [];
  indexes = record {
    name = codes "sqlite_autoindex_records_1";
    tree = 1;
    table = 0;
    columns = 1 ∷ 2 ∷ [];
    order = plain;
    is_unique = true;
  } ∷ [];
  views = [];
}

-- the schema of nothing
abbrev pub no_schema : Schema
no_schema = record { tables = []; indexes = []; views = [] }
