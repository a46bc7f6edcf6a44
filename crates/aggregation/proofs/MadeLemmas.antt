-- Operators as they were made.
use Rattle.std.proofs.Common.{◌≡◌, ℕ, List, [], ◌∷◌, ◌++◌, Bool, true, false, length, map, refl, ap, sym, subst, ◌∙◌}
use Rattle.std.specs.Prelude.{◌↔◌, Contains, flat_map}
use Rattle.sql_values.specs.declared.types.SqlType.{SqlType}
use Rattle.sql_values.specs.declared.value.Value.{Value}
use Rattle.sql_values.specs.declared.fail.Fail.{Fail}
use Rattle.sql_values.specs.declared.relational.Call.{Call}
use Rattle.sql_values.specs.Bags.{SameBag}
use Rattle.col_pages.specs.Fits.{IsOfTypes}
use Rattle.operator_core.specs.declared.late.Kernel.{Ghosts as KernelGhosts}
use Rattle.operator_core.specs.Late.{LateState, PageTypes}
use Rattle.operator_core.specs.LateGhosts.{late}
use Rattle.operator_core.specs.Lates.{IsLate}
use Rattle.operator_core.specs.Rows.{Row}
use Rattle.relation_laws.specs.Groups.{grouped_row, groups_of}
use Rattle.relation_laws.specs.Partials.{results_from}
use Rattle.relation_laws.specs.Verdicts.{Verdict, fails, keeps, kept}
use Rattle.bag_laws.specs.Pieces.{all_merged, behind_key, finals_of, front_keys, partials_of}
use Rattle.aggregation.specs.Alike.{part_rows}
use Rattle.aggregation.specs.Giving.{GroupsFail, GroupsGive, GroupsState, groups_made, has_more, has_verdict, merged_with, no_groups, parts_with, verdicts_with}
use Rattle.aggregation.specs.Held.{first_rows}
use Rattle.aggregation.specs.Tables.{held_in}
use Rattle.aggregation.proofs.PartLemmas.{finals-first, made_verdicts, merged_rows-first, partials-are}

each-kept : (said : List Value → List Value) (keys : List (List Value)) → flat_map kept (map (λ key. keeps (said key)) keys) ≡ map said keys
each-kept said [] = refl
each-kept said (key ∷ keys) = ap (λ rows. said key ∷ rows) (each-kept said keys)

-- there is a row for each group, whatever is said of it
some-said : (f h : List Value → Verdict) (keys : List (List Value)) → has_verdict (map f keys) ≡ has_verdict (map h keys)
some-said f h [] = refl
some-said f h (key ∷ keys) = refl

more-at : (g : GroupsState) (begun more : Bool) → begun ≡ false → more ≡ has_verdict (verdicts_with g.table []) → more ≡ has_more begun g.left.rows (parts_with g.table [])
more-at g true more e is = cc
more-at g false more e is =
    let w = length g.table.columns in
    let rows = held_in g.table ++ part_rows g.table.columns g.table.calls [] in
    is ∙ some-said (λ key. grouped_row key (results_from g.table.types g.table.calls (all_merged g.table.calls (behind_key w rows key))))
    (λ key. keeps (key ++ all_merged g.table.calls (behind_key w rows key))) (front_keys w rows)

pub more-parts : (g : GroupsState) (more : Bool) → g.begun ≡ false → more ≡ has_verdict (verdicts_with g.table []) → more ≡ has_more g.begun g.left.rows (parts_with g.table [])
more-parts g more e is = more-at g g.begun more e is

-- groups of no row of which is said what is said of all that comes
module _ (columns : List ℕ) (calls : List Call) (types given : List SqlType) (page : ℕ) (g : GroupsState) (made : g ≡ no_groups columns calls types given page) where
  unbegun : g.begun ≡ false
  unbegun = ap (λ (s : GroupsState). s.begun) made

  pub none-made : groups_made g ≡ g
  none-made = ap groups_made made ∙ sym made

  pub none-pages : ◌≡◌ {A = PageTypes} (record { takes = g.table.types; size = g.left.page }) (record { takes = types; size = page })
  none-pages = ap (λ (s : GroupsState). record { takes = s.table.types; size = s.left.page }) made

  pub none-gives : (V W : List Verdict) (rows : List (List Value)) (B : List (List Value)) → V ≡ W → flat_map kept W ≡ rows → GroupsGive g.begun g.left.rows V B ↔ SameBag rows B
  none-gives V W rows B said is = (
    (λ h. subst (λ (R : List (List Value)). SameBag R B) (ap (flat_map kept) said ∙ is) (subst (λ (b : Bool). GroupsGive b g.left.rows V B) unbegun h)),
    (λ h. subst (λ (b : Bool). GroupsGive b g.left.rows V B) (sym unbegun) (subst (λ (R : List (List Value)). SameBag R B) (sym (ap (flat_map kept) said ∙ is)) h)),
  )

  pub none-fails : (own : ℕ) (V W : List Verdict) (node : ℕ) (kind : Fail) → V ≡ W → GroupsFail g.begun own V node kind ↔ ((node ≡ own) × Contains W (fails kind))
  none-fails own V W node kind said = (
    (λ f. subst (λ (v : List Verdict). GroupsFail false own v node kind) said (subst (λ (b : Bool). GroupsFail b own V node kind) unbegun f)),
    (λ f. subst (λ (b : Bool). GroupsFail b own V node kind) (sym unbegun) (subst (λ (v : List Verdict). GroupsFail false own v node kind) (sym said) f)),
  )

  pub none-said : (X : List (List Value)) → verdicts_with g.table X ≡ groups_of types columns calls X
  none-said X = ap (λ (s : GroupsState). verdicts_with s.table X) made ∙ made_verdicts types columns calls X

  pub none-parts : (X : List (List Value)) → flat_map kept (parts_with g.table X) ≡ partials_of columns calls X
  none-parts X =
      let w = length columns in
      let rows = first_rows w calls ++ part_rows columns calls X in
      ap (λ (s : GroupsState). flat_map kept (parts_with s.table X)) made
      ∙ each-kept (λ key. key ++ all_merged calls (behind_key w rows key)) (front_keys w rows)
      ∙ merged_rows-first w calls (part_rows columns calls X) ∙ partials-are columns calls X

  pub none-merged : (X : List (List Value)) → merged_with g.table X ≡ finals_of types (length columns) calls X
  none-merged X = ap (λ (s : GroupsState). merged_with s.table X) made ∙ finals-first types (length columns) calls X

-- a late operator whose kernel was just made
pub late-is : {K : Type 0} (k : KernelGhosts K) (s : K) (op : LateState K) (Gives : List Row → List Row → Type 0) (Fails : List Row → ℕ → Fail → Type 0) (types : List SqlType) (most : ℕ)
    → op ≡ record { kernel = s; is_told = false } → k.as_made s ≡ s → k.pages s ≡ record { takes = types; size = most } → ((X B : List Row) → k.may_give s X B ↔ Gives X B)
    → ((X : List Row) (node : ℕ) (kind : Fail) → k.may_fail s X node kind ↔ Fails X node kind) → IsLate (late k) op Gives Fails types most
late-is {K = K} k s op Gives Fails types most is made pages giving failing =
    subst (λ (o : LateState K). IsLate (late k) o Gives Fails types most) (sym is)
    (record {
      fresh = record { made = ap (λ (t : K). record { kernel = t; is_told = false }) made; untold = refl; unfinished = refl; unlooked = refl; went = tt; counted = tt };
      gives = giving;
      fails = failing;
      takes = λ page. (
        (λ fit. subst (λ (p : PageTypes). IsOfTypes p.takes page) pages fit),
        (λ fit. subst (λ (p : PageTypes). IsOfTypes p.takes page) (sym pages) fit),
      );
      unfull = refl;
      size = ap (λ (p : PageTypes). p.size) pages;
      late = refl;
      waits = refl;
      knows = refl;
      learns = λ m learned. learned;
    })
