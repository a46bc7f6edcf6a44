use Rattle.std.proofs.Common.{◌≡◌, ℕ, List, [], ◌∷◌, ◌++◌, length, map, ap, sym, subst, ◌∙◌, arith}
use Rattle.accumulators.specs.GroupLists.{AreGroups, GroupList, group_list, none_in}
use Rattle.accumulators.specs.KeptColumns.{begun_behind, first_kept}
use Rattle.accumulators.proofs.GroupListLemmas.{are-first, are-more, list-first, list-more}
use Rattle.accumulators.proofs.SlotLemmas.{err_from}
use Rattle.accumulators.proofs.group_states.GroupStates.push.Goals as goal

pub invariant_of-self : goal.invariant_of-self
invariant_of-self c =
    let s = c.self.inside in
    let rows = s.rows.items in
    let cols = s.columns.items in
    let now = c.begin_each_at.new.columns.items in
    let all : c.len-place.result ≡ length rows = omega (arith, c.len-place.ensures, s.rows.ok.0) in
    let first : map (first_kept (length rows)) now ≡ map (first_kept (length rows)) cols
    = subst (λ (n : ℕ). map (first_kept n) now ≡ map (first_kept n) cols) all c.begin_each_at.ensures.first in
    are-first s.none rows cols now c.self.invariant first

pub returns-in_err-begin_each_at-clause-err : goal.returns-in_err-begin_each_at-clause-err
returns-in_err-begin_each_at-clause-err c =
    let s = c.self.inside in
    let rows = s.rows.items in
    let cols = s.columns.items in
    let now = c.begin_each_at.new.columns.items in
    let all : c.len-place.result ≡ length rows = omega (arith, c.len-place.ensures, s.rows.ok.0) in
    let first : map (first_kept (length rows)) now ≡ map (first_kept (length rows)) cols
    = subst (λ (n : ℕ). map (first_kept n) now ≡ map (first_kept n) cols) all c.begin_each_at.ensures.first in
    err_from c.from_residual.result (list-first s.none rows cols now c.self.invariant first ∙ c.self.view_is)

pub invariant_of-self-in_err-push : goal.invariant_of-self-in_err-push
invariant_of-self-in_err-push c =
    let s = c.self.inside in
    let rows = s.rows.items in
    let cols = s.columns.items in
    let now = c.begin_each_at.new.columns.items in
    let all : c.len-place.result ≡ length rows = omega (arith, c.len-place.ensures, s.rows.ok.0) in
    let first : map (first_kept (length rows)) now ≡ map (first_kept (length rows)) cols
    = subst (λ (n : ℕ). map (first_kept n) now ≡ map (first_kept n) cols) all c.begin_each_at.ensures.first in
    subst (λ (xs : List ℕ). AreGroups s.none xs now) (sym c.in_err-push.ensures.items) (are-first s.none rows cols now c.self.invariant first)

pub returns-in_err-push-clause-err : goal.returns-in_err-push-clause-err
returns-in_err-push-clause-err c =
    let s = c.self.inside in
    let rows = s.rows.items in
    let cols = s.columns.items in
    let now = c.begin_each_at.new.columns.items in
    let all : c.len-place.result ≡ length rows = omega (arith, c.len-place.ensures, s.rows.ok.0) in
    let first : map (first_kept (length rows)) now ≡ map (first_kept (length rows)) cols
    = subst (λ (n : ℕ). map (first_kept n) now ≡ map (first_kept n) cols) all c.begin_each_at.ensures.first in
    err_from c.from_residual-in_err-push.result (ap (λ (xs : List ℕ). group_list xs now) c.in_err-push.ensures.items ∙ list-first s.none rows cols now c.self.invariant first ∙ c.self.view_is)

pub invariant_of-self-2 : goal.invariant_of-self-2
invariant_of-self-2 c =
    let s = c.self.inside in
    let rows = s.rows.items in
    let cols = s.columns.items in
    let now = c.begin_each_at.new.columns.items in
    let all : c.len-place.result ≡ length rows = omega (arith, c.len-place.ensures, s.rows.ok.0) in
    let first : map (first_kept (length rows)) now ≡ map (first_kept (length rows)) cols
    = subst (λ (n : ℕ). map (first_kept n) now ≡ map (first_kept n) cols) all c.begin_each_at.ensures.first in
    let begun : now ≡ map (begun_behind (length rows)) cols = c.in_ok-begin_each_at.ensures.ok ∙ ap (λ n. map (begun_behind n) cols) all in
    subst (λ (xs : List ℕ). AreGroups s.none xs now) (sym c.in_ok-push.ensures.items) (are-more s.none rows cols now c.self.invariant first begun)

pub returns-clause-ok : goal.returns-clause-ok
returns-clause-ok c =
    let s = c.self.inside in
    let rows = s.rows.items in
    let cols = s.columns.items in
    let now = c.begin_each_at.new.columns.items in
    let all : c.len-place.result ≡ length rows = omega (arith, c.len-place.ensures, s.rows.ok.0) in
    let first : map (first_kept (length rows)) now ≡ map (first_kept (length rows)) cols
    = subst (λ (n : ℕ). map (first_kept n) now ≡ map (first_kept n) cols) all c.begin_each_at.ensures.first in
    let begun : now ≡ map (begun_behind (length rows)) cols = c.in_ok-begin_each_at.ensures.ok ∙ ap (λ n. map (begun_behind n) cols) all in
    ap (λ (xs : List ℕ). group_list xs now) c.in_ok-push.ensures.items ∙ list-more s.none rows cols now c.self.invariant first begun
    ∙ ap (λ (l : GroupList). record l { groups = l.groups ++ none_in l ∷ [] }) c.self.view_is
