-- `new` moves the expressions, and what they own goes with them.
use Rattle.std.proofs.Common.{◌≡◌, ◌&&◌, Bool, true, false, List, [], ◌∷◌, ◌++◌, refl, sym, subst}
use lib.Dec.{T}
use mir.Syntax.{Ty}
use mir.Val.{Val, of_list, vstruct, vcons, vnil, has_ty, WT}
use base.Logic.{SProp, ent, emp, id⊢}
use base.Fml.{ftrue, fsep, feq}
use prog.Wp.{WpFn}
use types.Kit.{‵, raw, ◌⊛◌, ◌$◌, ◌∵◌, !, qed, by, move, keep, rewrite, split, fsplit, fjoin, fpack, feq_i, suffices, use0}
use types.Run.{no_more, and_then, of_opd, returns, enter}
use types.Part.{agg}
use types.ByLocal.{alloc_all, pass_all, free_all, look_at, get, sets}
use contract.Monad.{fact, fact_i}
use contract.Running.{tables}
use denote.Exit.{yes}
use denote.Laws.{Typed}
use denote.Param.{layout}
use denote.RattleType.{RattleType, Valss, owns}
use denote.Signature.{types_at, plain}
use denote.Steps.{nothing}
use denote.Triple.Entry.{alive}
use denote.Triple.Walked.{Stays, stay_dropped, walk_of, Goes-dropped}
use Rattle.std.proofs.raw_atomic.Walks.{proved_at, leaves}
use Rattle.row_ops.specs.contracts.expressions.Expressions as expressions
use Rattle.row_ops.proofs.expressions.Expressions.TheLaws as laws
use Rattle.row_ops.specs.declared.expressions.SendExpressions.TheInside.{Inside}
use Rattle.row_ops.specs.declared.expressions.SendExpressions.TheView.{view}
use Rattle.row_ops.specs.contracts.expressions.SendExpressions.TheInside as fields
use Rattle.row_ops.specs.contracts.expressions.SendExpressions.new.{ended, clauses}
use Rattle.row_ops.specs.contracts.expressions.SendExpressions.new.Key.{name as #self}
use Rattle.row_ops.proofs.expressions.SendExpressions.new.Statement.{statement}
use Rattle.row_ops.proofs.expressions.SendExpressions.new.Code as code

abbrev Given : RattleType
Given = expressions.the_row

alone : (τ : Ty) (vs : List Val) → Typed (τ ∷ []) vs → (v : Val) × ((vs ≡ v ∷ []) × (T (has_ty τ v) × WT v))
alone τ [] t = absurd t
alone τ (v ∷ []) t = (v, (refl, t.0))
alone τ (v ∷ w ∷ vs) t = absurd t.1

one : (x : Bool) → T x → T (x && true)
one true t = tt
one false t = absurd t

abbrev stayed : Stays ended.signature.params ended.kept
stayed = (stay_dropped (plain (λ _. Given)) yes, tt)

pub new_spec : {M : Type 1} → statement M
new_spec 𝓤 𝓛 𝓜 𝓡 wired =
    let H = 𝓛.H in let 𝓣 = tables 𝓤 H 𝓜 𝓡 𝓡.env in let c = clauses 𝓛 𝓜.mem 𝓡.returns in
    proved_at 𝓛 ended stayed c 𝓜 𝓡 (Goes-dropped 𝓛 0 (plain (λ _. Given)) yes (λ κs x f. refl), tt) #self code.function (code.unfolded 𝓤 H 𝓜 𝓡 wired) (λ z are.
    let Post : Val → SProp 𝓤 = (walk_of 𝓛 ended stayed c).post z in let Run : List Val → SProp 𝓤 = λ ws. WpFn 𝓤 H 𝓣.C 𝓣.Λ code.function ws Post in
    let x = z.0.3.0 in let found = alone (layout Given) z.0.4.0 (((laws.the_row_laws).lawful 𝓛).typed x z.0.4.0 are.0) in
    let u = found.0 in let w : Val = vstruct (vcons u vnil) in let made : Inside = record { expressions = x } in
    qed 𝓛 ((raw (alive 𝓛 ended.signature z.0.0 z.0.1) ⊛ ‵ (owns (types_at ended.signature.params z.0.0) z.0.3 z.0.4)) ∷ raw ((c z.0.0 z.0.3).requires z.1) ∷ []) ∵
    split ! $ move ! (1 ∷ []) $ fsplit ! $ rewrite ! 0 (λ (us : List Val). ‵ (Given.own_val x us)) found.1.0 refl $
    -- [what is given; nothing; the tokens; nothing asked]
    fjoin ! $ feq_i ! (List Val) (w ∷ []) (w ∷ []) refl $ fjoin ! $
    fpack ! (Valss (Given ∷ [])) (λ vss. fsep (feq (List Val) (w ∷ []) (vstruct (of_list (vss.0 ++ [])) ∷ [])) (owns (Given ∷ []) (x, tt) vss)) (u ∷ [], tt) $
    nothing ! $ move ! (1 ∷ 0 ∷ []) $ fjoin ! $ nothing ! $ move ! (1 ∷ 0 ∷ []) $ fjoin ! $
    fpack ! ((a : Inside) × ((view a ≡ view made) × Unit {0})) (λ h. fsep (fields.the_row.own_val h.0 (w ∷ [])) ftrue) (made, (refl, tt)) $
    suffices ! (Run (u ∷ [])) (subst (λ (us : List Val). ent 𝓤 (Run (u ∷ [])) (Run us)) (sym (λ i. found.1.0 i ++ [])) (id⊢ 𝓤 (Run (u ∷ [])))) $
    enter ! 𝓣.C 𝓣.Λ code.function (u ∷ []) Post $ alloc_all ! (λ l. pass_all ! refl (found.1.1, tt) $
    sets ! (of_opd ! (get ! refl)) refl found.1.1 $ sets ! (agg ! (and_then ! (get ! refl) (no_more !))) refl (one _ found.1.1.0, (found.1.1.1, tt)) $
    use0 𝓛 (raw (fact 𝓤 (view made ≡ x))) (fact_i 𝓤 (view made ≡ x) (emp 𝓤) refl) $ nothing ! $ nothing ! $ fjoin ! $
    returns ! (look_at ! 0 refl) $ free_all ! refl $ keep ! (3 ∷ 0 ∷ 2 ∷ 1 ∷ []) $ by ! (leaves 𝓛 ended stayed c z w (view made) (tt, tt) (tt, tt))))
