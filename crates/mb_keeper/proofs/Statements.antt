-- What the texts of the statements mean over the schema.
use Rattle.std.proofs.lemmas.Fmt.{decimal_digit}
use Rattle.std.proofs.Common.{◌++◌, ap, arith, ◌≡◌, ℕ, List, [], ◌∷◌, codes, true, false, None, Ok, refl, pos, negsuc}
use Rattle.sqlite_value.specs.Keys.{plain}
use Rattle.sqlite_value.specs.declared.keys.Key.{Key}
use Rattle.sqlite.specs.declared.types.Value.TheVariants.{Null, Int}
use Rattle.sqlite.specs.Term.{Term, lit, col, op2}
use Rattle.sqlite_sql.specs.declared.ops.BinaryOp.TheVariants.{Compare}
use Rattle.sqlite_sql.specs.declared.ops.CompareOp.TheVariants.{Eq}
use Rattle.sqlite.specs.Collation.TheVariants.{Binary}
use Rattle.sqlite.specs.Query.{Query, inner, end}
use Rattle.sqlite.specs.Source.TheVariants.{Values}
use Rattle.sqlite.specs.Command.TheVariants.{Insert, CreateTable, Delete, Select}
use Rattle.sqlite.specs.Compile.{table_defined_by}
use Rattle.sqlite.specs.Change.{created}
use Rattle.sqlite_tied.specs.Compute.{everything}
use Rattle.sqlite.specs.Listing.{understood, reads_listing}
use Rattle.sqlite.proofs.Callers.{IsPlain, command_of, statement_of}
use Rattle.mb_keeper.specs.RecordTable.{no_schema, records, records_schema}

-- makes the table
abbrev pub create_text : List ℕ
create_text =
    codes "CREATE TABLE IF NOT EXISTS records(kind INTEGER NOT NULL, name TEXT NOT NULL, "
    ++ codes "body BLOB NOT NULL, PRIMARY KEY(kind, name)) STRICT"

-- asks for the body of a kind and a name
abbrev pub body_text : List ℕ
body_text = codes "SELECT body FROM records WHERE kind = ?1 AND name = ?2"

-- asks for the names of a kind
abbrev pub names_text : List ℕ
names_text = codes "SELECT name FROM records WHERE kind = ?1 ORDER BY name"

-- adds a row
abbrev pub insert_text : List ℕ
insert_text = codes "INSERT INTO records(kind, name, body) VALUES (?1, ?2, ?3)"

-- takes out the row of a kind and a name
abbrev pub delete_text : List ℕ
delete_text = codes "DELETE FROM records WHERE kind = ?1 AND name = ?2"

-- takes out all rows
abbrev pub clear_text : List ℕ
clear_text = codes "DELETE FROM records"

-- the kind of a row is the first parameter
abbrev pub of_kind : Term
of_kind = op2 (Compare Eq Binary) (col 1 1) (col 0 0)

-- the name of a row is the second parameter
abbrev pub of_name : Term
of_name = op2 (Compare Eq Binary) (col 1 2) (col 0 1)

-- what a query over the table shows of the rows that pass the tests
abbrev pub query : List Term → List Term → List (Term × Key) → Query
query filter project order = record {
  from = inner 0 end;
  filter = filter;
  group = None;
  project = project;
  distinct = false;
  collations = [];
  order = order;
  limit = lit (Int (negsuc 0));
  offset = lit (Int (pos 0));
}

-- the bodies of a kind and a name
abbrev pub body_query : Query
body_query = query (of_kind ∷ of_name ∷ []) (col 1 3 ∷ []) []

-- the names of a kind, by name
abbrev pub names_query : Query
names_query = query (of_kind ∷ []) (col 1 2 ∷ [])
    ((col 1 2, record { collation = Binary; descending = false }) ∷ [])

-- the numbers of the rows of a kind and a name
abbrev pub delete_query : Query
delete_query = query (of_kind ∷ of_name ∷ []) (col 1 0 ∷ []) []

-- the numbers of all rows
abbrev pub clear_query : Query
clear_query = query [] (col 1 0 ∷ []) []

-- a row has a number of its own, and the three parameters
abbrev pub insert_terms : List Term
insert_terms = lit Null ∷ col 0 0 ∷ col 0 1 ∷ col 0 2 ∷ []

-- over nothing, the first statement makes the table
pub create_first : (command_of (understood no_schema create_text) ≡ CreateTable)
    × (statement_of create_text (understood no_schema create_text) ≡ create_text)
    × (table_defined_by create_text ≡ Ok records)
unfolding understood everything
create_first = (refl, refl, refl)

-- it gives back no rows and reads no time
pub create_first_plain : IsPlain (understood no_schema create_text)
unfolding understood everything
create_first_plain = (refl, refl)

-- what it makes is the table with its index
pub created_is : created no_schema records ≡ records_schema
created_is = ap (λ (ds : List ℕ). record {
  tables = records ∷ [];
  indexes =
      record {
        name = codes "sqlite_autoindex_records_" ++ ds;
        tree = 1;
        table = 0;
        columns =
            1 ∷ 2 ∷ [];
        order = plain;
        is_unique = true;
      } ∷ [];
  views = [];
})
    (decimal_digit 1 (omega arith))

-- over the table, the query of a body is read as such
pub body_is : command_of (understood records_schema body_text)
    ≡ Select (record { lets = []; body = body_query }) (codes "body" ∷ [])
unfolding understood everything
body_is = refl

-- it reads no time, and asks for no schema
pub body_plain : IsPlain (understood records_schema body_text)
    × (reads_listing records_schema body_text ≡ false)
unfolding understood everything
body_plain = ((refl, refl), refl)

-- so is the query of names
pub names_is : command_of (understood records_schema names_text)
    ≡ Select (record { lets = []; body = names_query }) (codes "name" ∷ [])
unfolding understood everything
names_is = refl

-- it reads no time, and asks for no schema
pub names_plain : IsPlain (understood records_schema names_text)
    × (reads_listing records_schema names_text ≡ false)
unfolding understood everything
names_plain = ((refl, refl), refl)

-- the insertion is read as one of the parameters
pub insert_is : command_of (understood records_schema insert_text)
    ≡ Insert 0 (Values insert_terms 4)
unfolding understood everything
insert_is = refl

-- it gives back no rows and reads no time
pub insert_plain : IsPlain (understood records_schema insert_text)
unfolding understood everything
insert_plain = (refl, refl)

-- the deletion is read as one of what its query finds
pub delete_is : command_of (understood records_schema delete_text)
    ≡ Delete 0 (record { lets = []; body = delete_query })
unfolding understood everything
delete_is = refl

-- it gives back no rows and reads no time
pub delete_plain : IsPlain (understood records_schema delete_text)
unfolding understood everything
delete_plain = (refl, refl)

-- so is the deletion of all rows
pub clear_is : command_of (understood records_schema clear_text)
    ≡ Delete 0 (record { lets = []; body = clear_query })
unfolding understood everything
clear_is = refl

-- it gives back no rows and reads no time
pub clear_plain : IsPlain (understood records_schema clear_text)
unfolding understood everything
clear_plain = (refl, refl)
