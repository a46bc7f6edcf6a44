-- What a domain holds back has no partner, and what filters lose is held back by their domains.
use Rattle.std.proofs.Common.{◌≡◌, ℕ, ◌<◌, List, [], ◌∷◌, ◌++◌, Bool, true, false, Contains, refl, ap, sym, ◌∙◌, ◌⊎◌, inl, inr, length, map, get_or, arith}
use Rattle.std.specs.Prelude.{All, ◌||◌, filter}
use Rattle.std.proofs.Common.{append-nil, append_assoc}
use Rattle.std.proofs.lemmas.List.Elements.{All-head, All-tail, Contains-append_left, Contains-append_right, Contains-push}
use Rattle.sql_values.specs.declared.types.SqlType.{SqlType}
use Rattle.sql_values.specs.declared.value.Value.{Value}
use Rattle.sql_values.specs.Cells.{cell}
use Rattle.sql_values.specs.ColumnRows.{fits_row}
use Rattle.relation_laws.specs.Joins.{are_partners}
use Rattle.bag_laws.specs.Buckets.{Sits}
use Rattle.bag_laws.proofs.BagLemmas.{same-append, same-from_equal, same-from_permutation, same-refl, same-sym, same-trans}
use Rattle.bag_laws.proofs.BucketLemmas.{sits-append, sits-cons, sits-head, sits-nil, sits-same, sits-tail}
use Rattle.plan_trees.specs.Allowed.{Mode}
use Rattle.dyn_filter.specs.declared.domain.Domain.{Domain}
use Rattle.dyn_filter.specs.Domains.{IsDomainOf}
use Rattle.dyn_filter.specs.Rows.{row_passes}
use Rattle.dyn_filter.proofs.DomainLemmas.{lost_row}
use Rattle.dyn_filter.proofs.LostLemmas.{lost_rows}
use Rattle.lost_row_laws.specs.Domains.{Filtering, KeptByAll, Losses, sieve_of}
use Rattle.lost_row_laws.specs.Runs.{AreAlone}
use Rattle.lost_row_laws.specs.Sieves.{Sieve, fits_in, holds_back, is_held, is_lost}
use Rattle.lost_row_laws.proofs.ArrivalLemmas.{first_or_later, nothing}
use Rattle.lost_row_laws.proofs.SieveLemmas.{back_by, back_fails, both, fit_in, fits_length, held_by_either}

only_one : (b : Bool) → b || false ≡ true → b ≡ true
only_one true h = refl
only_one false h = absurd cc

-- one domain, at a pair of a join
pub alone_by : (domain : Domain) (on : List (ℕ × ℕ)) (k : ℕ) (rows : List (List Value)) → k < length on
    → IsDomainOf (map (λ row. cell row (get_or on k (0, 0)).1) rows) domain
    → AreAlone on rows (sieve_of (record { column = (get_or on k (0, 0)).0; domain = domain }) ∷ [])
alone_by domain on k rows lt is a h =
    let s : Sieve = sieve_of (record { column = (get_or on k (0, 0)).0; domain = domain }) in
    lost_row domain on k a rows lt is (back_fails s a (only_one (holds_back s a) h))

-- several
pub alone_by_both : (on : List (ℕ × ℕ)) (rows : List (List Value)) (own more : List Sieve) → AreAlone on rows own → AreAlone on rows more
    → AreAlone on rows (own ++ more)
alone_by_both on rows own more first second a h = of (is_held own a) refl (sym (held_by_either own more a) ∙ h)
  where
    of : (b : Bool) → is_held own a ≡ b → is_held own a || is_held more a ≡ true → filter (are_partners on a) rows ≡ []
    of true is h = first a is
    of false is h = second a (sym (ap (λ (b : Bool). b || is_held more a) is) ∙ h)

module _ (mode : Mode) (sieves : List Sieve) (types : List SqlType) where
  held_by : (all : List Sieve) (s : Sieve) (row : List Value) → Contains all s → holds_back s row ≡ true → is_held all row ≡ true
  held_by [] s row among h = absurd (nothing s among)
  held_by (t ∷ all) s row among h = of (first_or_later t s all among) (λ later. held_by all s row later h)
    where
      or_right : (b : Bool) → b || true ≡ true
      or_right true = refl
      or_right false = refl

      of : (t ≡ s) ⊎ Contains all s → (Contains all s → is_held all row ≡ true) → is_held (t ∷ all) row ≡ true
      of (inl same) down =
          ap (λ (u : Sieve). holds_back u row || is_held all row) same ∙ ap (λ (b : Bool). b || is_held all row) h
      of (inr later) down = ap (λ (b : Bool). holds_back t row || b) (down later) ∙ or_right (holds_back t row)

  behind : (A B : List (List Value)) → Sits (fits_row types) (A ++ B) → Sits (fits_row types) B
  behind [] B s = s
  behind (row ∷ A) B s = behind A B (sits-tail (fits_row types) row (A ++ B) s)

  front : (A B : List (List Value)) → Sits (fits_row types) (A ++ B) → Sits (fits_row types) A
  front [] B s = sits-nil (fits_row types)
  front (row ∷ A) B s = sits-cons (fits_row types) row A (sits-head (fits_row types) row (A ++ B) s) (front A B (sits-tail (fits_row types) row (A ++ B) s))

  lost_of : (f : Filtering) → Contains sieves (sieve_of f) → f.column < length types → (lost : List (List Value)) → All (λ row. row_passes f.domain f.column row ≡ false) lost
      → Sits (fits_row types) lost → Sits (is_lost mode sieves types) lost
  lost_of f among within [] fails fit = sits-nil (is_lost mode sieves types)
  lost_of f among within (row ∷ lost) fails fit =
      sits-cons (is_lost mode sieves types) row lost
      (both (fits_in mode types row) (is_held sieves row) (fit_in mode types row (sits-head (fits_row types) row lost fit))
      (held_by sieves (sieve_of f) row among
      (back_by (sieve_of f) row (omega (arith, within, fits_length types row (sits-head (fits_row types) row lost fit)))
      (All-head (λ (r : List Value). row_passes f.domain f.column r ≡ false) row lost fails))))
      (lost_of f among within lost (All-tail (λ (r : List Value). row_passes f.domain f.column r ≡ false) row lost fails)
      (sits-tail (fits_row types) row lost fit))

  pub lost_by_all : (filters : List Filtering) → ((f : Filtering) → Contains filters f → Contains sieves (sieve_of f) × (f.column < length types))
      → (kept rows : List (List Value)) → Sits (fits_row types) rows → KeptByAll filters kept rows → Losses mode sieves types kept rows
  lost_by_all [] among kept rows fit is = record { lost = []; all = same-from_equal (append-nil kept ∙ is); held = sits-nil (is_lost mode sieves types) }
  lost_by_all (f ∷ filters) among kept rows fit (between, first, later) =
      let one = lost_rows (row_passes f.domain f.column) between rows first in
      let same = same-from_permutation one.1 in
      let fits = sits-same (fits_row types) same fit in
      let rest = lost_by_all filters (λ g is. among g (Contains-append_right (f ∷ []) filters g is)) kept between (front between one.0 fits) later in
      record {
        lost = rest.lost ++ one.0;
        all = same-trans (same-from_equal (sym (append_assoc kept rest.lost one.0)))
            (same-trans (same-append rest.all (same-refl one.0)) (same-sym same));
        held = sits-append (is_lost mode sieves types) rest.lost one.0 rest.held
            (lost_of f (among f (Contains-append_left (f ∷ []) filters f (one_of f))).0 (among f (Contains-append_left (f ∷ []) filters f (one_of f))).1 one.0 one.2 (behind between one.0 fits));
      }
    where
      one_of : (g : Filtering) → Contains (g ∷ []) g
      one_of g = Contains-push [] g
