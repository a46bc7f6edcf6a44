-- The tables that are asked for, one after the other, and as a whole.
use Rattle.std.proofs.Common.{◌≡◌, ◌≤◌, ◌<◌, ℕ, zero, suc, ◌+◌, ◌^◌, take, length, map, slice_index_or, List, [], ◌∷◌, ◌++◌, Option, Some, None, refl, sym, ◌∙◌, ap, subst, slice_get, unwrap_or, is_none, add-one}
use native.Mathlib.Omega.{arith}
use Rattle.std.specs.List.{position_from}
use Rattle.run_ports.specs.Reading.{AreBytesOf}
use Rattle.plan_docs.specs.declared.plan.TableDoc.{TableDoc}
use Rattle.command_line.specs.Words.{Job, file_of}
use Rattle.query_runner.specs.Jobs.{AreTablesAsked, Contents, first_without_file, IsFileOf, IsTableAsked, Row}
use Rattle.tree_evaluator.specs.Stops.{rows_of_table}
use Rattle.sql_values.specs.declared.table.Table.{Table}
use Rattle.std.proofs.lemmas.List.{map-append}
use Rattle.std.proofs.lemmas.List.Elements.{All-push}
use Rattle.col_pages.specs.Fits.{AllFit}
use Rattle.task_executor.specs.Tables.{HaveColumns}
use Rattle.sql_values.specs.Columns.{kinds}
use Rattle.tree_evaluator.specs.Fits.{TablesFit}
use Rattle.task_executor.specs.Shapes.{AreFew}
use Rattle.query_runner.specs.Loading.{TableFails, TableIsRefused, TablesFail}
use Rattle.query_runner.specs.declared.status.Status.{Status}
use Rattle.query_runner.specs.declared.status.Status.TheVariants as status

-- one table more
pub one_table_more : (held : Contents) (job : Job) (docs : List TableDoc) (tables : List (List Row)) (doc : TableDoc) (rows : List Row)
    → AreTablesAsked held job docs tables → IsTableAsked held job doc rows
    → AreTablesAsked held job (docs ++ doc ∷ []) (tables ++ rows ∷ [])
one_table_more held job [] [] doc rows done one = (one, tt)
one_table_more held job [] (r ∷ rs) doc rows done one = absurd done
one_table_more held job (d ∷ ds) [] doc rows done one = absurd done
one_table_more held job (d ∷ ds) (r ∷ rs) doc rows done one = (done.0, one_table_more held job ds rs doc rows done.1 one)

-- the file of a table, and what it holds
same_file : (job : Job) (doc : TableDoc) (p q : ℕ) (f g : List ℕ) → IsFileOf job doc p f → IsFileOf job doc q g → f ≡ g
same_file job doc p q f g a b = ap (λ (found : Option (ℕ × List ℕ)). (unwrap_or found (0, [])).1) (sym a.is ∙ b.is)

same_bytes : (held : List ℕ → Option (List ℕ)) (f g x y : List ℕ) → f ≡ g → AreBytesOf (Some held) f x → AreBytesOf (Some held) g y → x ≡ y
same_bytes held f g x y e a b = cc (e, a, b)

pub one_table : (held : List ℕ → Option (List ℕ)) (job : Job) (doc : TableDoc) (a b : List Row)
    → IsTableAsked (Some held) job doc a → IsTableAsked (Some held) job doc b → a ≡ b
one_table held job doc a b p q =
    let file = same_file job doc p.place q.place p.file q.file p.is_file q.is_file in
    let bytes = same_bytes held p.file q.file p.bytes q.bytes file p.are_bytes q.are_bytes in
    cc (bytes, p.is_table.reads, q.is_table.reads)

pub one_list_of_tables : (held : List ℕ → Option (List ℕ)) (job : Job) (docs : List TableDoc) (a b : List (List Row))
    → AreTablesAsked (Some held) job docs a → AreTablesAsked (Some held) job docs b → a ≡ b
one_list_of_tables held job [] [] [] p q = refl
one_list_of_tables held job [] [] (s ∷ ss) p q = absurd q
one_list_of_tables held job [] (r ∷ rs) b p q = absurd p
one_list_of_tables held job (d ∷ ds) [] b p q = absurd p
one_list_of_tables held job (d ∷ ds) (r ∷ rs) [] p q = absurd q
one_list_of_tables held job (d ∷ ds) (r ∷ rs) (s ∷ ss) p q =
    cc (one_table held job d r s p.0 q.0, one_list_of_tables held job ds rs ss p.1 q.1)

pub table_serves : (held : List ℕ → Option (List ℕ)) (job : Job) (doc : TableDoc) (rows : List Row) (row column why : ℕ)
    → IsTableAsked (Some held) job doc rows → TableIsRefused (Some held) job doc row column why → ⊥
table_serves held job doc rows row column why good bad =
    let file = same_file job doc good.place bad.place good.file bad.file good.is_file bad.is_file in
    let bytes = same_bytes held good.file bad.file good.bytes bad.bytes file good.are_bytes bad.are_bytes in
    let reads = good.is_table.reads in let refused = bad.refused.is in cc (bytes, reads, refused)

pub tables_serve : (held : List ℕ → Option (List ℕ)) (job : Job) (docs : List TableDoc) (tables : List (List Row)) (place : ℕ) (doc : TableDoc) (row column why : ℕ)
    → AreTablesAsked (Some held) job docs tables → slice_get docs place ≡ Some doc → TableIsRefused (Some held) job doc row column why → ⊥
tables_serve held job [] tables place doc row column why good is bad = absurd cc
tables_serve held job (d ∷ ds) [] place doc row column why good is bad = absurd good
tables_serve held job (d ∷ ds) (r ∷ rs) zero doc row column why good is bad =
    let same : d ≡ doc = cc in
    table_serves held job doc r row column why (subst (λ (x : TableDoc). IsTableAsked (Some held) job x r) same good.0) bad
tables_serve held job (d ∷ ds) (r ∷ rs) (suc place) doc row column why good is bad =
    tables_serve held job ds rs place doc row column why good.1 is bad

-- each table has a file
pub all_have_files : (held : Contents) (job : Job) (docs : List TableDoc) (tables : List (List Row)) (i : ℕ)
    → AreTablesAsked held job docs tables → position_from (λ doc. is_none (file_of doc.name job.files)) i docs ≡ None
all_have_files held job [] tables i good = refl
all_have_files held job (d ∷ ds) [] i good = absurd good
all_have_files held job (d ∷ ds) (r ∷ rs) i good =
    let here = good.0.is_file.is in let later = all_have_files held job ds rs (i + 1) good.1 in
    rw here later

-- items that stand at one place of two lists with the same images
pub images_at : {A B C : Type 0} (f : A → C) (g : B → C) (xs : List A) (ys : List B) (i : ℕ) (x : A) (y : B)
    → map f xs ≡ map g ys → i < length xs → i < length ys → f (slice_index_or xs i x) ≡ g (slice_index_or ys i y)
images_at f g [] ys i x y same h k = absurd (omega (arith, h))
images_at f g (a ∷ more) [] i x y same h k = absurd (omega (arith, k))
images_at f g (a ∷ more) (b ∷ bs) zero x y same h k = cc same
images_at f g (a ∷ more) (b ∷ bs) (suc i) x y same h k =
    let later : map f more ≡ map g bs = cc same in
    let p : i < length more = omega (arith, h) in
    let q : i < length bs = omega (arith, k) in
    images_at f g more bs i x y later p q

-- an item is there where the place is within
pub item_there : {A : Type 0} (xs : List A) (i : ℕ) (x : A) → i < length xs → slice_get xs i ≡ Some (slice_index_or xs i x)
item_there [] i x h = absurd (omega (arith, h))
item_there (a ∷ more) zero x h = refl
item_there (a ∷ more) (suc i) x h = let p : i < length more = omega (arith, h) in item_there more i x p

-- a table that was not read, after those before it were
pub table_fails : (held : Contents) (job : Job) (docs : List TableDoc) (place : ℕ) (doc : TableDoc) (tables : List (List Row))
    (before middle after : ℕ) (refused : Option (List ℕ)) (answer : Status)
    → first_without_file job docs ≡ None
    → AreTablesAsked held job (take place docs) tables → slice_get docs place ≡ Some doc → before ≤ middle
    → TableFails held job doc place middle after refused answer → TablesFail held job docs before after refused answer
table_fails held job docs place doc tables before middle after refused status.Ok all done is le why = absurd why
table_fails held job docs place doc tables before middle after refused status.Memory all done is le why = tt
table_fails held job docs place doc tables before middle after refused status.BadWords all done is le why = absurd why
table_fails held job docs place doc tables before middle after refused (status.ReadFault file) all done is le why = record {
  all_have_files = all;
  table = place;
  doc = doc;
  is_doc = is;
  earlier = tables;
  are_tables = done;
  unread = record {
    place = why.place;
    name = why.name;
    is_file = why.is_file;
    is_number = why.is_number;
    failed = record { rose = let rose = why.failed.rose in omega (arith, le, rose); is_name = why.failed.is_name };
  };
}
table_fails held job docs place doc tables before middle after refused (status.PlanRefused code path) all done is le why = absurd why
table_fails held job docs place doc tables before middle after refused (status.TableRefused table row column cause) all done is le why = record {
  all_have_files = all;
  place = place;
  is_number = why.0;
  doc = doc;
  is_doc = is;
  earlier = tables;
  are_tables = done;
  refused = why.1;
}
table_fails held job docs place doc tables before middle after refused (status.ExprFailed node kind) all done is le why = absurd why
table_fails held job docs place doc tables before middle after refused status.WriteFault all done is le why = absurd why

-- the tables up to the next place
pub one_place_more : (held : Contents) (job : Job) (docs : List TableDoc) (tables : List (List Row)) (i : ℕ) (doc : TableDoc) (rows : List Row)
    → AreTablesAsked held job (take i docs) tables → slice_get docs i ≡ Some doc → IsTableAsked held job doc rows
    → AreTablesAsked held job (take (suc i) docs) (tables ++ rows ∷ [])
one_place_more held job [] tables i doc rows done is one = absurd cc
one_place_more held job (d ∷ ds) [] zero doc rows done is one =
    let same : doc ≡ d = cc is in (subst (λ (x : TableDoc). IsTableAsked held job x rows) same one, tt)
one_place_more held job (d ∷ ds) (r ∷ rs) zero doc rows done is one = absurd done
one_place_more held job (d ∷ ds) [] (suc i) doc rows done is one = absurd done
one_place_more held job (d ∷ ds) (r ∷ rs) (suc i) doc rows done is one = (done.0, one_place_more held job ds rs i doc rows done.1 is one)

-- the step of a loop over tables
pub loop_step : (before held : Contents) (job : Job) (docs : List TableDoc) (xs ys : List Table) (table : Table) (i : ℕ) (doc : TableDoc)
    → AreTablesAsked before job (take i docs) (map rows_of_table xs) → held ≡ before → slice_get docs i ≡ Some doc
    → IsTableAsked held job doc (rows_of_table table) → ys ≡ xs ++ table ∷ []
    → AreTablesAsked before job (take (i + 1) docs) (map rows_of_table ys)
loop_step before held job docs xs ys table i doc done same is one grown =
    let here = subst (λ h. IsTableAsked h job doc (rows_of_table table)) same one in
    let step = one_place_more before job docs (map rows_of_table xs) i doc (rows_of_table table) done is here in
    let whole : map rows_of_table xs ++ rows_of_table table ∷ [] ≡ map rows_of_table ys = sym (map-append rows_of_table xs (table ∷ [])) ∙ ap (map rows_of_table) (sym grown) in
    subst (λ (n : ℕ). AreTablesAsked before job (take n docs) (map rows_of_table ys)) (sym (add-one i))
    (subst (λ (t : List (List Row)). AreTablesAsked before job (take (suc i) docs) t) whole step)

-- one table more that fits its columns
pub fits_more : (xs ys : List Table) (table : Table) → TablesFit xs → AllFit (kinds table.columns) table.rows → ys ≡ xs ++ table ∷ [] → TablesFit ys
fits_more xs ys table all one grown =
    subst TablesFit (sym grown) (All-push (λ (t : Table). AllFit (kinds t.columns) t.rows) xs table all one)

-- one table more whose rows are few
pub few_more : (xs ys : List Table) (table : Table) → AreFew xs → length table.rows < 2 ^ 32 → ys ≡ xs ++ table ∷ [] → AreFew ys
few_more xs ys table all one grown =
    subst AreFew (sym grown) (All-push (λ (t : Table). length t.rows < 2 ^ 32) xs table all one)

-- the columns of one table more
next_columns : (docs : List TableDoc) (tables : List Table) (i : ℕ) (doc : TableDoc) (table : Table) → HaveColumns (take i docs) tables → slice_get docs i ≡ Some doc
    → table.columns ≡ doc.columns → HaveColumns (take (suc i) docs) (tables ++ table ∷ [])
next_columns [] tables i doc table done is one = absurd cc
next_columns (d ∷ ds) [] zero doc table done is one = let same : d ≡ doc = cc is in (λ j. (one ∙ ap (λ (x : TableDoc). x.columns) (sym same)) j ∷ [])
next_columns (d ∷ ds) (t ∷ ts) zero doc table done is one = absurd cc
next_columns (d ∷ ds) [] (suc i) doc table done is one = absurd cc
next_columns (d ∷ ds) (t ∷ ts) (suc i) doc table done is one =
    let first : t.columns ≡ d.columns = cc done in
    let rest : HaveColumns (take i ds) ts = cc done in
    let more = next_columns ds ts i doc table rest is one in (λ j. first j ∷ more j)

pub columns_more : (docs : List TableDoc) (xs ys : List Table) (table : Table) (i : ℕ) (doc : TableDoc) → HaveColumns (take i docs) xs → slice_get docs i ≡ Some doc
    → table.columns ≡ doc.columns → ys ≡ xs ++ table ∷ [] → HaveColumns (take (i + 1) docs) ys
columns_more docs xs ys table i doc done is one grown =
    subst (λ (ts : List Table). HaveColumns (take (i + 1) docs) ts) (sym grown)
    (subst (λ (n : ℕ). HaveColumns (take n docs) (xs ++ table ∷ [])) (sym (add-one i)) (next_columns docs xs i doc table done is one))
