-- The cells of a block, read and cut in the vector that keeps them.
use Rattle.std.proofs.Common.{◌≡◌, ℕ, ◌+◌, ◌<◌, Bool, true, List, [], ◌∷◌, ◌++◌, Option, None, length, get_or, take, drop, map, refl, ap, sym, ◌∙◌, arith, zero, suc}
use Rattle.std.specs.Prelude.{All, IsTrue}
use Rattle.std.proofs.lemmas.List.{map-append, length-map, take_more, take-map, drop-map}
use Rattle.columns.specs.Present.{gather}
use Rattle.sql_values.specs.declared.value.Value.{Value}
use Rattle.sql_values.specs.declared.value.Value.TheVariants as value
use Rattle.sql_values.specs.declared.types.SqlType.{SqlType}
use Rattle.sql_values.specs.declared.types.SqlType.TheVariants.{Boolean, Bigint, Decimal, Varchar, Date}
use Rattle.sql_values.specs.Types.{has_type}
use Rattle.sql_values.specs.declared.plain_block.Held.{Held}
use Rattle.sql_values.specs.Blocks.{TypedCells, fits, offered, or_null, with_cells}
use Rattle.sql_values.specs.Held.{typed}

pub get_or-or_null : {A : Type 0} (f : A → Value) (xs : List (Option A)) (i : ℕ) → get_or (map (or_null f) xs) i value.Null ≡ or_null f (get_or xs i None)
get_or-or_null f [] i = refl
get_or-or_null f (x ∷ xs) zero = refl
get_or-or_null f (x ∷ xs) (suc i) = get_or-or_null f xs i

pub gather-or_null : {A : Type 0} (f : A → Value) (xs : List (Option A)) (ps : List ℕ) → map (or_null f) (gather xs None ps) ≡ gather (map (or_null f) xs) value.Null ps
gather-or_null f xs [] = refl
gather-or_null f xs (p ∷ ps) = cc (get_or-or_null f xs p, gather-or_null f xs ps)

-- the whole of a block that was chosen by places, from what was held and what is held then
pub typed-chosen : {A : Type 0} (f : A → Value) (make : List (Option A) → Held) (kind : SqlType) → ((xs : List (Option A)) → typed (make xs) ≡ record { kind = kind; cells = map (or_null f) xs }) → (block : TypedCells) (old new : Held) (xs ys : List (Option A)) (ps : List ℕ) → typed old ≡ block → old ≡ make xs → new ≡ make ys → ys ≡ gather xs None ps → typed new ≡ with_cells block (gather block.cells value.Null ps)
typed-chosen f make kind is block old new xs ys ps b o n e =
    let before : block ≡ record { kind = kind; cells = map (or_null f) xs } = sym b ∙ ap typed o ∙ is xs in
    let cells : map (or_null f) ys ≡ gather (map (or_null f) xs) value.Null ps = ap (map (or_null f)) e ∙ gather-or_null f xs ps in
    ap typed n ∙ is ys ∙ ap (λ (vs : List Value). record { kind = kind; cells = vs }) cells ∙ ap (λ (t : TypedCells). with_cells t (gather t.cells value.Null ps)) (sym before)

-- a block of the first values, and of one more
pub of_values-more : (kind : SqlType) (vs : List Value) (i : ℕ) (block next : TypedCells) (taken : Bool) (v : Value) → block ≡ record { kind = kind; cells = take i vs } → v ≡ get_or vs i v → i < length vs → taken ≡ fits block.kind v → next ≡ with_cells block (offered taken block.cells v) → IsTrue (fits kind (get_or vs i v)) → next ≡ record { kind = kind; cells = take (i + 1) vs }
of_values-more kind vs i block next taken v b e l t n f =
    let yes : taken ≡ true = t ∙ ap (λ (x : TypedCells). fits x.kind v) b ∙ ap (fits kind) e ∙ f in
    n ∙ ap (λ (x : Bool). with_cells block (offered x block.cells v)) yes ∙ ap (λ (x : TypedCells). with_cells x (x.cells ++ v ∷ [])) b
    ∙ ap (λ (x : Value). record { kind = kind; cells = take i vs ++ x ∷ [] }) e ∙ ap (λ (xs : List Value). record { kind = kind; cells = xs }) (sym (take_more vs i v l))

-- a value of a type has its variant
pub typed_fits : (kind : SqlType) (v : Value) → has_type kind v ≡ true → fits kind v ≡ true
typed_fits Boolean value.Null h = refl
typed_fits Bigint value.Null h = refl
typed_fits (Decimal p s) value.Null h = refl
typed_fits Varchar value.Null h = refl
typed_fits Date value.Null h = refl
typed_fits Boolean (value.Boolean truth) h = refl
typed_fits Bigint (value.Bigint n) h = refl
typed_fits (Decimal p s) (value.Decimal unscaled) h = refl
typed_fits Varchar (value.Varchar text) h = refl
typed_fits Date (value.Date day) h = refl
typed_fits kind v h = cc

pub ruleset blocks = (length-map, take-map, drop-map, get_or-or_null, gather-or_null)

pub ruleset joins = (map-append)
