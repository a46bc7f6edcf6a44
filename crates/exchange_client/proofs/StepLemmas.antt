-- A step of a fetch: what arrives, and what it gives.
use Rattle.std.proofs.Common.{zero, suc, ◌≡◌, ◌⊎◌, ℕ, ◌+◌, ◌<◌, List, [], ◌∷◌, ◌++◌, length, take, All, Bool, true, false, not, ◌&&◌, Result, Ok, Err, IfOk, OnOk, ◌==◌, Option, Some, None, option_map, IfSome, slice_get, if◌then◌else◌, arith, ap, sym, ◌∙◌, refl, subst, inl, inr}
use Rattle.std.proofs.lemmas.List.{append_assoc, nil_from_length, length-take}
use Rattle.std.proofs.lemmas.List.Elements.{All-head, All-tail}
use Rattle.std.proofs.lemmas.Bool.{and_parts, and_from, eq-eqb, eqb-true, cond-true, leb-false, not-true, or_right, false_from_ne_true}
use Rattle.col_pages.specs.Pages.{TypedPage}
use Rattle.page_window.specs.Windows.{end_of}
use Rattle.page_window.specs.declared.reply.Reply.{Reply}
use Rattle.count_laws.specs.Counts.{Rose}
use Rattle.run_ports.specs.declared.courier.Delivery.{Delivery}
use Rattle.run_ports.specs.declared.courier.Delivery.TheVariants.{Fresh, Again, Nothing}
use Rattle.exchange_client.specs.Clients.{ClientState, KeptValue, kept_as, accepted, pages_given, client_after, unless_stale}
use Rattle.exchange_client.specs.Fetches.{FetchState, rest, Carries, KeepsTokens, fresh_of, is_used_up, last_token, KeepsRest, GivesWhatIsLeft}
use Rattle.exchange_client.specs.Steps.{arriving, IsDelivered, HasArrived, HasStepped, HasMissed, is_due, delivered, taken, most_fruitless}
use Rattle.exchange_client.proofs.FetchLemmas.{rest_length, rest_at_end}

-- a page that was given is no longer to be given
pub carries_on : (old new : FetchState) (pages : List TypedPage) → rest old ≡ pages ++ rest new → (put given : List TypedPage) → Carries put given old → Carries put (given ++ pages) new
carries_on old new pages step put given so_far =
    so_far ∙ ap (λ ys. given ++ ys) step ∙ sym (append_assoc given pages (rest new))

-- what is stale gives nothing, and changes nothing
pages_by : (b : Bool) (c : ClientState) (r : KeptValue) → (r.token == c.next) ≡ b → pages_given c (if b then Some r else None) ≡ (if b then r.pages else [])
pages_by true c r is = ap (λ (b : Bool). if b then r.pages else []) is
pages_by false c r is = refl

pub pages_unless_stale : (c : ClientState) (o : Option KeptValue) → pages_given c (unless_stale c o) ≡ pages_given c o
pages_unless_stale c None = refl
pages_unless_stale c (Some r) = pages_by (r.token == c.next) c r refl

abbrev taken_with : FetchState → KeptValue → Bool → FetchState
taken_with f r b = record f { client = if b then accepted f.client r else f.client; fruitless = if b then 0 else f.fruitless }

taken_by : (b : Bool) (f : FetchState) (r : KeptValue) → (r.token == f.client.next) ≡ b → taken f (if b then Some r else None) ≡ taken_with f r b
taken_by true f r is = ap (taken_with f r) is
taken_by false f r is = refl

pub taken_unless_stale : (f : FetchState) (o : Option KeptValue) → taken f (unless_stale f.client o) ≡ taken f o
taken_unless_stale f None = refl
taken_unless_stale f (Some r) = taken_by (r.token == f.client.next) f r refl

-- where all tokens are used, nothing is left
pub used_up_rest : (f : FetchState) → is_used_up f ≡ true → rest f ≡ []
used_up_rest f up =
    let ends = (and_parts (not f.window.is_ended) (end_of f.window == last_token && f.client.next == end_of f.window) up).1 in
    rest_at_end f.window f.client.next (eqb-true f.client.next (end_of f.window) (and_parts (end_of f.window == last_token) (f.client.next == end_of f.window) ends).1)

pub used_up_going : (f : FetchState) → is_used_up f ≡ true → f.window.is_ended ≡ false
used_up_going f up = not-true f.window.is_ended (and_parts (not f.window.is_ended) (end_of f.window == last_token && f.client.next == end_of f.window) up).0

none_taken : {A : Type 0} (n : ℕ) (xs : List A) → 0 < n → take n xs ≡ [] → xs ≡ []
none_taken n xs some none = nil_from_length xs (omega (arith, some, length-take n xs, ap length none))

-- the fresh reply gives what is left
pub fresh_gives : (f : FetchState) → KeepsTokens f.window f.client f.most f.kept → GivesWhatIsLeft f (fresh_of f)
fresh_gives f keeps = record {
  empty = none_taken f.most (rest f) keeps.some;
  whole = λ ended none.
      let at_end : f.client.next + length (take f.most (rest f)) ≡ end_of f.window =
      omega (arith, length-take f.most (rest f), ap length none, rest_length f.window f.client.next keeps.low keeps.high) in
      and_from f.window.is_ended (f.client.next + length (take f.most (rest f)) == end_of f.window) ended (eq-eqb _ _ at_end);
}

module _ (P : KeptValue → Type 0) where
  picked : (kept : List KeptValue) (at : ℕ) (r : KeptValue) → All P kept → Some r ≡ slice_get kept at → P r
  picked [] at r all is = cc
  picked (x ∷ xs) zero r all is = let e : r ≡ x = cc in subst P (sym e) (All-head P x xs all)
  picked (x ∷ xs) (suc n) r all is = picked xs n r (All-tail P x xs all) is

  -- what arrives is fresh or was kept
  pub arrives_of : (d : Delivery) (kept : List KeptValue) (fresh : KeptValue) (o : Option Reply) → All P kept → P fresh → option_map kept_as o ≡ arriving d kept fresh → IfSome o (λ r. P (kept_as r))
  arrives_of d kept fresh None all new is = tt
  arrives_of Fresh kept fresh (Some r) all new is = let e : kept_as r ≡ fresh = cc in subst P (sym e) new
  arrives_of (Again k) kept fresh (Some r) all new is = picked kept _ (kept_as r) all is
  arrives_of Nothing kept fresh (Some r) all new is = cc

-- the fresh reply arrived, or a turn was missed and the fresh reply was not due
pub fresh_or_missed : (due : Bool) (f : FetchState) (arrived : Option KeptValue) (new : FetchState) → HasArrived due f arrived new → (arrived ≡ Some (fresh_of f)) ⊎ ((due ≡ false) × Rose f.missed new.missed)
fresh_or_missed due f arrived new h = by h.delivery h.asked h.which
  where
    by : (d : Delivery) → IsDelivered due d f.missed new.missed → arrived ≡ arriving d f.kept (fresh_of f) → (arrived ≡ Some (fresh_of f)) ⊎ ((due ≡ false) × Rose f.missed new.missed)
    by Fresh asked which = inl which
    by (Again k) asked which = inr (false_from_ne_true due (λ e. let g = (asked.unasked e).0 in cc), asked.cause)
    by Nothing asked which = inr (false_from_ne_true due (λ e. let g = (asked.unasked e).0 in cc), asked.cause)

-- the pages of a reply to the next token are given, and its client is complete where it is
pub given_next : (c : ClientState) (o : Option KeptValue) (r : KeptValue) → o ≡ Some r → r.token ≡ c.next → pages_given c o ≡ r.pages
given_next c o r is at = ap (pages_given c) is ∙ cond-true (r.token == c.next) r.pages [] (eq-eqb _ _ at)

pub complete_next : (c : ClientState) (o : Option KeptValue) (r : KeptValue) → o ≡ Some r → r.token ≡ c.next → r.is_complete ≡ true → (client_after c o).is_complete ≡ true
complete_next c o r is at whole =
    ap (λ u. (client_after c u).is_complete) is ∙ ap (λ k. k.is_complete) (cond-true (r.token == c.next) _ c (eq-eqb _ _ at)) ∙ or_right c.is_complete r.is_complete whole

module _ (old begun new : FetchState) (due : Bool) (pages : List TypedPage) (same : KeepsRest old begun) (is : due ≡ is_due old)
    (gives : GivesWhatIsLeft begun (fresh_of begun)) (s : HasStepped due begun pages new) where
  client_before : s.between.client ≡ begun.client
  client_before = ap (λ f. f.client) s.arrives.after

  has_missed : (due ≡ false) × Rose begun.missed s.between.missed → HasMissed old new
  has_missed (idle, rose) =
      let few : old.fruitless < most_fruitless = leb-false most_fruitless old.fruitless (sym is ∙ idle) in
      (few, subst (λ m. Rose m new.missed) same.turns (subst (λ m. Rose begun.missed m) (sym (ap (λ f. f.missed) s.after)) rose))

  pub stepped_empty : pages ≡ [] → (rest old ≡ []) ⊎ HasMissed old new
  stepped_empty none = by (fresh_or_missed due begun s.arrived s.between s.arrives)
    where
      by : (s.arrived ≡ Some (fresh_of begun)) ⊎ ((due ≡ false) × Rose begun.missed s.between.missed) → (rest old ≡ []) ⊎ HasMissed old new
      by (inl fresh) =
          let no_page : (fresh_of begun).pages ≡ [] = sym (given_next begun.client s.arrived (fresh_of begun) fresh refl) ∙ sym s.given ∙ none in
          inl (sym same.pages ∙ gives.empty no_page)
      by (inr missed) = inr (has_missed missed)

  pub stepped_complete : old.window.is_ended ≡ true → rest old ≡ [] → (new.client.is_complete ≡ true) ⊎ HasMissed old new
  stepped_complete ended none = by (fresh_or_missed due begun s.arrived s.between s.arrives)
    where
      by : (s.arrived ≡ Some (fresh_of begun)) ⊎ ((due ≡ false) × Rose begun.missed s.between.missed) → (new.client.is_complete ≡ true) ⊎ HasMissed old new
      by (inl fresh) =
          let whole : (fresh_of begun).is_complete ≡ true = gives.whole (same.ended ∙ ended) (same.pages ∙ none) in
          inl (ap (λ f. f.client.is_complete) s.after ∙ ap (λ c. (client_after c s.arrived).is_complete) client_before ∙ complete_next begun.client s.arrived (fresh_of begun) fresh refl whole)
      by (inr missed) = inr (has_missed missed)

-- a step is what a delivery lets arrive, and what is given of it
pub steps_by : {E : Type 0} (due : Bool) (d : Delivery) (f : FetchState) (missed : ℕ) (answer : Result (List TypedPage) E) (new : FetchState) → IsDelivered due d f.missed missed → IfOk answer (λ pages. pages ≡ pages_given f.client (arriving d f.kept (fresh_of f))) → OnOk answer (new ≡ taken (delivered d f missed) (arriving d f.kept (fresh_of f))) → IfOk answer (λ pages. HasStepped due f pages new)
steps_by due d f missed (Ok pages) new asked given after = record {
  arrived = arriving d f.kept (fresh_of f);
  between = delivered d f missed;
  arrives = record { delivery = d; asked = asked; which = refl; after = refl };
  given = given;
  after = after;
}
steps_by due d f missed (Err e) new asked given after = tt

-- what follows of each answer that is no fault
pub on_ok : {A E : Type 0} (P : A → Type 0) (X : Type 0) (answer : Result A E) → ((x : A) → P x → X) → IfOk answer P → OnOk answer X
on_ok P X (Ok x) follows holds = follows x holds
on_ok P X (Err e) follows holds = tt
