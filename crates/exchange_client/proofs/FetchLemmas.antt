-- What a fetch keeps of its tokens.
use Rattle.std.proofs.Common.{◌≡◌, ◌⊎◌, ℕ, ◌+◌, ◌-◌, ◌≤◌, List, [], ◌∷◌, ◌++◌, length, take, drop, max, true, false, ◌==◌, arith, ap, sym, ◌∙◌, refl, subst, Result, Ok, Err, OnOk, OnErr, IfOk, inl, inr}
use Rattle.std.proofs.lemmas.List.{length-append, length-drop, drop-append-le, drop-drop, drop_at, drop_all, take-append-drop, append_assoc}
use Rattle.std.proofs.lemmas.List.Elements.{All-weaker, All-push, All-drop}
use Rattle.std.proofs.lemmas.Bool.{and_parts, or_cases, eqb-true}
use Rattle.col_pages.specs.Pages.{TypedPage}
use Rattle.page_window.specs.Windows.{WindowState, end_of, from_token, pushed, acknowledged}
use Rattle.exchange_client.specs.Clients.{ClientState, KeptValue, accepted, given_away}
use Rattle.exchange_client.specs.Fetches.{FetchState, rest, MayArrive, KeepsTokens, fresh_of}

module _ (w : WindowState) (next : ℕ) (low : w.base ≤ next) (high : next ≤ end_of w) where
  -- how many pages are left
  pub rest_length : length (from_token w next) + next ≡ end_of w
  rest_length = omega (arith, length-drop (next - w.base) w.held, low, high)

  pub rest_pushed : (page : TypedPage) → from_token (pushed w page) next ≡ from_token w next ++ page ∷ []
  rest_pushed page = drop-append-le (next - w.base) w.held (page ∷ []) (omega (arith, low, high))

  pub rest_acknowledged : from_token (acknowledged w next) next ≡ from_token w next
  rest_acknowledged = let e : next - max w.base next ≡ 0 = omega arith in ap (λ n. drop n (from_token w next)) e

  pub end_acknowledged : end_of (acknowledged w next) ≡ end_of w
  end_acknowledged = let e : max w.base next ≡ next = omega (arith, low) in omega (arith, e, rest_length)

-- nothing is left at the end
pub rest_at_end : (w : WindowState) (next : ℕ) → next ≡ end_of w → from_token w next ≡ []
rest_at_end w next same = drop_all (next - w.base) w.held (omega (arith, same))

-- a reply that may arrive may do so where the window has the same pages left, and the same end
pub arrives_alike : (w v : WindowState) (next : ℕ) (r : KeptValue) → (w.is_ended ≡ true → v.is_ended ≡ true) → end_of v ≡ end_of w → from_token v next ≡ from_token w next → MayArrive w next r → MayArrive v next r
arrives_alike w v next r going same_end same_rest may = record {
  past = may.past;
  whole = may.whole;
  first = λ at. let (more, split) = may.first at in (more, same_rest ∙ split);
  ended = λ done. let e = may.ended done in (going e.0, e.1 ∙ sym same_end);
}

module _ (w : WindowState) (c : ClientState) (most : ℕ) (kept : List KeptValue) (keeps : KeepsTokens w c most kept) where
  -- one more page, in a window that is not ended
  pub keeps_pushed : (page : TypedPage) → w.is_ended ≡ false → KeepsTokens (pushed w page) c most kept
  keeps_pushed page going = record {
    some = keeps.some;
    low = keeps.low;
    high = omega (arith, keeps.high, length-append w.held (page ∷ []));
    complete = λ done. let e = (keeps.complete done).0 in absurd (still e);
    arrives = All-weaker (MayArrive w c.next) (MayArrive (pushed w page) c.next) (λ r may. record {
      past = may.past;
      whole = may.whole;
      first = λ at. let (more, split) = may.first at in
          (more ++ page ∷ [], rest_pushed w c.next keeps.low keeps.high page ∙ ap (λ ys. ys ++ page ∷ []) split ∙ append_assoc r.pages more (page ∷ []));
      ended = λ done. absurd (still (may.ended done).0);
    }) kept keeps.arrives;
  }
    where
      still : w.is_ended ≡ true → ⊥
      still e = cc

  pub keeps_put : {E : Type 0} (answer : Result (Unit {0}) E) (v : WindowState) (page : TypedPage) → w.is_ended ≡ false → OnOk answer (v ≡ pushed w page) → OnErr answer (v ≡ w) → KeepsTokens v c most kept
  keeps_put (Ok done) v page going is same = subst (λ u. KeepsTokens u c most kept) (sym is) (keeps_pushed page going)
  keeps_put (Err back) v page going is same = subst (λ u. KeepsTokens u c most kept) (sym same) keeps

  -- the latest of what is kept and one more
  pub keeps_latest : (r : KeptValue) (n : ℕ) → MayArrive w c.next r → KeepsTokens w c most (drop n (kept ++ r ∷ []))
  keeps_latest r n may = record {
    some = keeps.some;
    low = keeps.low;
    high = keeps.high;
    complete = keeps.complete;
    arrives = All-drop (MayArrive w c.next) n (kept ++ r ∷ []) (All-push (MayArrive w c.next) kept r keeps.arrives may);
  }

  module _ (r : KeptValue) (at : r.token ≡ c.next) (may : MayArrive w c.next r) where
    within : length r.pages + c.next ≤ end_of w
    within = let (more, split) = may.first at in omega (arith, rest_length w c.next keeps.low keeps.high, ap length split, length-append r.pages more)

    -- what is left once the reply is accepted
    pub rest_accepted : from_token w c.next ≡ r.pages ++ from_token w r.next
    rest_accepted =
        let (more, split) = may.first at in
        let here : r.next - w.base ≡ (c.next - w.base) + length r.pages = omega (arith, at, may.whole at, keeps.low) in
        let left : from_token w r.next ≡ more =
        ap (λ n. drop n w.held) here ∙ sym (drop-drop (length r.pages) (c.next - w.base) w.held) ∙ ap (drop (length r.pages)) split ∙ drop_at r.pages more (length r.pages) refl in
        split ∙ ap (λ ys. r.pages ++ ys) (sym left)

    pub keeps_accepted : KeepsTokens w (accepted c r) most kept
    keeps_accepted = record {
      some = keeps.some;
      low = omega (arith, at, may.whole at, keeps.low);
      high = omega (arith, at, may.whole at, within);
      complete = λ done. ended (or_cases c.is_complete r.is_complete done);
      arrives = All-weaker (MayArrive w c.next) (MayArrive w r.next) (λ s one. record {
        past = omega (arith, at, may.whole at, one.past);
        whole = λ on. one.whole (omega (arith, at, may.whole at, one.past, on));
        first = λ on.
            let still : r.next ≡ c.next = omega (arith, at, may.whole at, one.past, on) in
            let (more, split) = one.first (on ∙ still) in
            (more, ap (from_token w) still ∙ split);
        ended = one.ended;
      }) kept keeps.arrives;
    }
      where
        ended : (c.is_complete ≡ true) ⊎ (r.is_complete ≡ true) → (w.is_ended ≡ true) × (r.next ≡ end_of w)
        ended (inl whole) = let e = keeps.complete whole in (e.0, omega (arith, at, may.whole at, within, e.1))
        ended (inr whole) = may.ended whole

    -- the reply may arrive again without its pages, since the client is behind them
    given_arrives : MayArrive w r.next (given_away r)
    given_arrives = record {
      past = omega (arith, may.whole at);
      whole = λ on. omega (arith, on);
      first = λ _. (from_token w r.next, refl);
      ended = may.ended;
    }

-- the latest of what is kept and a reply whose pages are given
pub keeps_given : (w : WindowState) (c : ClientState) (most : ℕ) (kept : List KeptValue) (r : KeptValue) (n : ℕ) → KeepsTokens w c most kept → r.token ≡ c.next → MayArrive w c.next r → KeepsTokens w (accepted c r) most (drop n (kept ++ given_away r ∷ []))
keeps_given w c most kept r n keeps at may =
    keeps_latest w (accepted c r) most kept (keeps_accepted w c most kept keeps r at may) (given_away r) n (given_arrives w c most kept keeps r at may)

-- the fresh reply may arrive
pub fresh_arrives : (f : FetchState) → KeepsTokens f.window f.client f.most f.kept → MayArrive f.window f.client.next (fresh_of f)
fresh_arrives f keeps = record {
  past = omega arith;
  whole = λ _. refl;
  first = λ _. (drop f.most (rest f), sym (take-append-drop f.most (rest f)));
  ended = λ done.
      let both = and_parts f.window.is_ended (f.client.next + length (take f.most (rest f)) == end_of f.window) done in
      (both.0, eqb-true _ _ both.1);
}

-- what holds of a value may be said of it in a weaker way
pub ok_weaker : {A E : Type 0} (P Q : A → Type 0) (answer : Result A E) → ((x : A) → P x → Q x) → IfOk answer P → IfOk answer Q
ok_weaker P Q (Ok x) weaker holds = weaker x holds
ok_weaker P Q (Err e) weaker holds = tt
