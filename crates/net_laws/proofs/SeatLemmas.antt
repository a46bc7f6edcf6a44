-- Blocks of pipes, one behind the other, whose seats are numbered.
use Rattle.std.proofs.Common.{◌≡◌, ℕ, ◌+◌, ◌-◌, ◌*◌, ◌/◌, ◌%◌, ◌<◌, ◌≤◌, suc, zero, List, [], ◌∷◌, ◌++◌, length, ◌⊎◌, inl, inr, refl, ap, sym, ◌∙◌, subst, arith, Some}
use Rattle.std.specs.Prelude.{slice_get}
use Rattle.std.proofs.lemmas.Bool.{cases_lt, cases_order}
use Rattle.std.proofs.lemmas.Nat.{div-add-mod', div_below, mod_below, row_fits}
use Rattle.plan_layout.specs.declared.pipe.Series.{Series}
use Rattle.plan_layout.specs.Pipes.{PipeForm, number_in_task}
use Rattle.net_laws.specs.Numbers.{AreNumbered, Precedes, Seat, address, number_at}
use Rattle.plan_layout.proofs.FetchLemmas.{in_either, is_below}
use Rattle.plan_layout.proofs.SideLemmas.{get_left, get_right}
use Rattle.plan_spreads.proofs.EachLemmas.{Each, each_at}

-- the row and the column of a place
record RowOf (n w r : ℕ) : Type 0 where
  row : ℕ
  column : ℕ
  few : row < n
  narrow : column < w
  is : row * w + column ≡ r

row_of : (n w r : ℕ) → r < n * w → (0 < w) ⊎ (w ≤ 0) → RowOf n w r
row_of n w r lt (inl some) = record {
  row = r / w;
  column = r % w;
  few = div_below r w n some lt;
  narrow = mod_below r w some;
  is = div-add-mod' r w;
}
row_of n zero r lt (inr none) = absurd (omega (arith, lt))
row_of n (suc w) r lt (inr none) = absurd (omega (arith, none))

-- of two lists of numbers that are equally long one comes first, or they are the same
four_order : (a b c d e f g h : ℕ)
    → (Precedes (a ∷ b ∷ c ∷ d ∷ []) (e ∷ f ∷ g ∷ h ∷ []) → ⊥) → (Precedes (e ∷ f ∷ g ∷ h ∷ []) (a ∷ b ∷ c ∷ d ∷ []) → ⊥)
    → (a ∷ b ∷ c ∷ d ∷ []) ≡ (e ∷ f ∷ g ∷ h ∷ [])
four_order a b c d e f g h before after = at (cases_order a e) (cases_order b f) (cases_order c g) (cases_order d h)
  where
    at : (a ≡ e) ⊎ ((a < e) ⊎ (e < a)) → (b ≡ f) ⊎ ((b < f) ⊎ (f < b)) → (c ≡ g) ⊎ ((c < g) ⊎ (g < c)) → (d ≡ h) ⊎ ((d < h) ⊎ (h < d))
        → (a ∷ b ∷ c ∷ d ∷ []) ≡ (e ∷ f ∷ g ∷ h ∷ [])
    at (inl p) (inl q) (inl r) (inl s) = cc
    at (inl p) (inl q) (inl r) (inr (inl s)) = absurd (before (inr (p, inr (q, inr (r, inl s)))))
    at (inl p) (inl q) (inl r) (inr (inr s)) = absurd (after (inr (sym p, inr (sym q, inr (sym r, inl s)))))
    at (inl p) (inl q) (inr (inl r)) s = absurd (before (inr (p, inr (q, inl r))))
    at (inl p) (inl q) (inr (inr r)) s = absurd (after (inr (sym p, inr (sym q, inl r))))
    at (inl p) (inr (inl q)) r s = absurd (before (inr (p, inl q)))
    at (inl p) (inr (inr q)) r s = absurd (after (inr (sym p, inl q)))
    at (inr (inl p)) q r s = absurd (before (inl p))
    at (inr (inr p)) q r s = absurd (after (inl p))

module _ (width : PipeForm → ℕ) (numbers : PipeForm → Series) where
  -- how many seats there are in a task, and in all
  abbrev pub widths : List PipeForm → ℕ
  widths [] = 0
  widths (pipe ∷ pipes) = width pipe + widths pipes

  abbrev pub seats : List PipeForm → ℕ
  seats [] = 0
  seats (pipe ∷ pipes) = pipe.tasks * width pipe + seats pipes

  -- in a task, before those of the pipe at a place
  abbrev ahead : List PipeForm → ℕ → ℕ
  ahead [] at = 0
  ahead (pipe ∷ pipes) zero = 0
  ahead (pipe ∷ pipes) (suc at) = width pipe + ahead pipes at

  -- the numbers of each pipe follow those of the pipes before
  abbrev pub Follow : ℕ → ℕ → List PipeForm → Type 0
  Follow first stride [] = Unit {0}
  Follow first stride (pipe ∷ pipes) = (0 < width pipe → numbers pipe ≡ record { first = first; stride = stride }) × Follow (first + width pipe) stride pipes

  pub seats_append : (xs ys : List PipeForm) → seats (xs ++ ys) ≡ seats xs + seats ys
  seats_append [] ys = omega arith
  seats_append (x ∷ xs) ys = omega (arith, seats_append xs ys)

  begins : (pipes : List PipeForm) (first stride at : ℕ) (pipe : PipeForm) → Follow first stride pipes → slice_get pipes at ≡ Some pipe → 0 < width pipe
      → numbers pipe ≡ record { first = first + ahead pipes at; stride = stride }
  begins [] first stride at pipe follow is some = absurd cc
  begins (x ∷ pipes) first stride zero pipe follow is some =
      let same : x ≡ pipe = cc is in
      let plus : first ≡ first + 0 = omega arith in
      subst (λ (p : PipeForm). 0 < width p → numbers p ≡ record { first = first + 0; stride = stride }) same
      (subst (λ (n : ℕ). 0 < width x → numbers x ≡ record { first = n; stride = stride }) plus follow.0) some
  begins (x ∷ pipes) first stride (suc at) pipe follow is some =
      let plus : first + width x + ahead pipes at ≡ first + (width x + ahead pipes at) = omega arith in
      subst (λ (n : ℕ). numbers pipe ≡ record { first = n; stride = stride }) plus (begins pipes (first + width x) stride at pipe follow.1 is some)

  within : (pipes : List PipeForm) (at : ℕ) (pipe : PipeForm) → slice_get pipes at ≡ Some pipe → ahead pipes at + width pipe ≤ widths pipes
  within [] at pipe is = absurd cc
  within (x ∷ pipes) zero pipe is =
      let same : width x ≡ width pipe = ap width (cc is) in
      omega (arith, same)
  within (x ∷ pipes) (suc at) pipe is = omega (arith, within pipes at pipe is)

  behind : (pipes : List PipeForm) (i j : ℕ) (pipe other : PipeForm) → slice_get pipes i ≡ Some pipe → slice_get pipes j ≡ Some other → i < j → ahead pipes i + width pipe ≤ ahead pipes j
  behind [] i j pipe other is so lt = absurd cc
  behind (x ∷ pipes) i zero pipe other is so lt = absurd (omega (arith, lt))
  behind (x ∷ pipes) zero (suc j) pipe other is so lt =
      let same : width x ≡ width pipe = ap width (cc is) in
      omega (arith, same)
  behind (x ∷ pipes) (suc i) (suc j) pipe other is so lt = omega (arith, behind pipes i j pipe other is so (omega (arith, lt)))

  -- which seat of a task has a number
  record LaneAt (pipes : List PipeForm) (r : ℕ) : Type 0 where
    at : ℕ
    pipe : PipeForm
    is : slice_get pipes at ≡ Some pipe
    lane : ℕ
    has_lane : lane < width pipe
    place : ahead pipes at + lane ≡ r

  lane_at : (pipes : List PipeForm) (r : ℕ) → r < widths pipes → LaneAt pipes r
  lane_at [] r lt = absurd (omega (arith, lt))
  lane_at (x ∷ pipes) r lt = by (λ less. lane_at pipes (r - width x) less) (cases_lt r (width x))
    where
      by : (r - width x < widths pipes → LaneAt pipes (r - width x)) → (r < width x) ⊎ (width x ≤ r) → LaneAt (x ∷ pipes) r
      by later (inl here) = record { at = 0; pipe = x; is = refl; lane = r; has_lane = here; place = omega arith }
      by later (inr above) =
          let rest = later (omega (arith, above, lt)) in
          record { at = suc rest.at; pipe = rest.pipe; is = rest.is; lane = rest.lane; has_lane = rest.has_lane; place = omega (arith, above, rest.place) }

  -- the seats so far are numbered
  pub record Numbered (layout : List PipeForm) : Type 0 where
    pub below : (a : Seat width layout) → number_at numbers a < seats layout
    pub some : (n : ℕ) → n < seats layout → (a : Seat width layout) × (number_at numbers a ≡ n)
    pub in_order : (a b : Seat width layout) → Precedes (address a) (address b) → number_at numbers a < number_at numbers b

  pub none_numbered : Numbered []
  none_numbered = record {
    below = λ a. absurd cc;
    some = λ n lt. absurd (omega (arith, lt));
    in_order = λ a b h. absurd cc;
  }

  once_each : (layout : List PipeForm) → Numbered layout → (a b : Seat width layout) → number_at numbers a ≡ number_at numbers b → address a ≡ address b
  once_each layout h a b same =
      four_order a.pipe.fragment a.task a.at a.lane b.pipe.fragment b.task b.at b.lane
      (λ before. let lt = h.in_order a b before in omega (arith, lt, same))
      (λ after. let lt = h.in_order b a after in omega (arith, lt, same))

  pub all_numbered : (layout : List PipeForm) (count : ℕ) → seats layout ≡ count → Numbered layout → AreNumbered width numbers layout count
  all_numbered layout count is h =
      subst (AreNumbered width numbers layout) is (record {
        below = h.below;
        some = h.some;
        in_order = h.in_order;
        once = once_each layout h;
      })

  abbrev pub IsOf : ℕ → ℕ → PipeForm → Type 0
  IsOf number n pipe = (pipe.fragment ≡ number) × (pipe.tasks ≡ n)

  seats_of : (number n : ℕ) (pipes : List PipeForm) → Each (IsOf number n) pipes → seats pipes ≡ n * widths pipes
  seats_of number n [] each = omega arith
  seats_of number n (x ∷ pipes) each =
      let tasks : x.tasks ≡ n = each.0.1 in
      let here : x.tasks * width x ≡ n * width x = ap (λ m. m * width x) tasks in
      let rest = seats_of number n pipes each.1 in
      omega (arith, here, rest)

  module _ (done block : List PipeForm) (number n : ℕ) (each : Each (IsOf number n) block) (follow : Follow (seats done) (widths block) block)
      (earlier : Each (λ (pipe : PipeForm). pipe.fragment < number) done) (so_far : Numbered done) where
    -- a seat among those before, or in the block
    record InBlock (a : Seat width (done ++ block)) : Type 0 where
      k : ℕ
      place : a.at ≡ length done + k
      is : slice_get block k ≡ Some a.pipe

    record InDone (a : Seat width (done ++ block)) : Type 0 where
      is : slice_get done a.at ≡ Some a.pipe

    abbrev Where : Seat width (done ++ block) → Type 0
    Where a = InDone a ⊎ InBlock a

    where_is : (a : Seat width (done ++ block)) → Where a
    where_is a = by (in_either done block a.at a.pipe a.is)
      where
        by : (slice_get done a.at ≡ Some a.pipe) ⊎ (j : ℕ) × (a.at ≡ length done + j) × (slice_get block j ≡ Some a.pipe) → Where a
        by (inl h) = inl (record { is = h })
        by (inr (j, at, h)) = inr (record { k = j; place = at; is = h })

    abbrev old_seat : (a : Seat width (done ++ block)) → InDone a → Seat width done
    old_seat a h = record { at = a.at; pipe = a.pipe; is = h.is; task = a.task; has_task = a.has_task; lane = a.lane; has_lane = a.has_lane }

    abbrev kept_seat : (s : Seat width done) → Seat width (done ++ block)
    kept_seat s = record {
      at = s.at;
      pipe = s.pipe;
      is = get_left done block s.at (is_below done s.at s.pipe s.is) ∙ s.is;
      task = s.task;
      has_task = s.has_task;
      lane = s.lane;
      has_lane = s.has_lane;
    }

    -- what a seat of the block has
    record Own (a : Seat width (done ++ block)) (k : ℕ) : Type 0 where
      value : number_at numbers a ≡ seats done + (a.task * widths block + (ahead block k + a.lane))
      column : ahead block k + a.lane < widths block
      task : a.task < n
      fragment : a.pipe.fragment ≡ number

    own : (a : Seat width (done ++ block)) (h : InBlock a) → Own a h.k
    own a h =
        let some : 0 < width a.pipe = omega (arith, a.has_lane) in
        let starts = begins block (seats done) (widths block) h.k a.pipe follow h.is some in
        let mine = each_at (IsOf number n) block h.k a.pipe h.is each in
        let plain = ap (λ s. number_in_task s a.task + a.lane) starts in
        let wide = within block h.k a.pipe h.is in
        let tasks : a.pipe.tasks ≡ n = mine.1 in
        record {
          value = omega (arith, plain);
          column = omega (arith, wide, a.has_lane);
          task = omega (arith, a.has_task, tasks);
          fragment = mine.0;
        }

    whole : seats (done ++ block) ≡ seats done + n * widths block
    whole = seats_append done block ∙ ap (λ m. seats done + m) (seats_of number n block each)

    below_of : (a : Seat width (done ++ block)) → Where a → number_at numbers a < seats (done ++ block)
    below_of a (inl h) =
        let lt = so_far.below (old_seat a h) in
        omega (arith, whole, lt)
    below_of a (inr h) =
        let o = own a h in
        let fits = row_fits a.task (widths block) n (widths block) o.task (omega arith) in
        omega (arith, whole, o.value, o.column, fits)

    earlier_at : (a : Seat width (done ++ block)) → InDone a → a.pipe.fragment < number
    earlier_at a h = each_at (λ (pipe : PipeForm). pipe.fragment < number) done a.at a.pipe h.is earlier

    some_seat : (m : ℕ) → m < seats (done ++ block) → (m < seats done) ⊎ (seats done ≤ m) → (a : Seat width (done ++ block)) × (number_at numbers a ≡ m)
    some_seat m lt (inl before) =
        let s = so_far.some m before in
        (kept_seat s.0, s.1)
    some_seat m lt (inr from) =
        let r = row_of n (widths block) (m - seats done) (omega (arith, whole, lt, from)) (cases_lt 0 (widths block)) in
        let l = lane_at block r.column r.narrow in
        let mine = each_at (IsOf number n) block l.at l.pipe l.is each in
        let tasks : l.pipe.tasks ≡ n = mine.1 in
        let a : Seat width (done ++ block) = record {
          at = length done + l.at;
          pipe = l.pipe;
          is = get_right done block l.at ∙ l.is;
          task = r.row;
          has_task = omega (arith, tasks, r.few);
          lane = l.lane;
          has_lane = l.has_lane;
        } in
        let o = own a (record { k = l.at; place = refl; is = l.is }) in
        (a, omega (arith, o.value, l.place, r.is, from))

    rows_order : (a b : Seat width (done ++ block)) (h : InBlock a) (g : InBlock b) → Precedes (a.task ∷ a.at ∷ a.lane ∷ []) (b.task ∷ b.at ∷ b.lane ∷ [])
        → number_at numbers a < number_at numbers b
    rows_order a b h g (inl task) =
        let o = own a h in
        let q = own b g in
        let fits = row_fits a.task (widths block) b.task (widths block) task (omega arith) in
        omega (arith, o.value, q.value, o.column, fits)
    rows_order a b h g (inr (task, inl place)) =
        let o = own a h in
        let q = own b g in
        let row : a.task * widths block ≡ b.task * widths block = ap (λ m. m * widths block) task in
        let apart = behind block h.k g.k a.pipe b.pipe h.is g.is (omega (arith, h.place, g.place, place)) in
        omega (arith, o.value, q.value, row, apart, a.has_lane)
    rows_order a b h g (inr (task, inr (place, inl lane))) =
        let o = own a h in
        let q = own b g in
        let row : a.task * widths block ≡ b.task * widths block = ap (λ m. m * widths block) task in
        let same : h.k ≡ g.k = omega (arith, h.place, g.place, place) in
        let start : ahead block h.k ≡ ahead block g.k = ap (ahead block) same in
        omega (arith, o.value, q.value, row, start, lane)
    rows_order a b h g (inr (task, inr (place, inr (lane, none)))) = absurd none

    block_order : (a b : Seat width (done ++ block)) (h : InBlock a) (g : InBlock b) → Precedes (address a) (address b) → number_at numbers a < number_at numbers b
    block_order a b h g (inl before) =
        let o = own a h in
        let q = own b g in
        absurd (omega (arith, before, o.fragment, q.fragment))
    block_order a b h g (inr (same, rest)) = rows_order a b h g rest

    not_after : (a b : Seat width (done ++ block)) → a.pipe.fragment ≡ number → b.pipe.fragment < number → Precedes (address a) (address b) → ⊥
    not_after a b is lt (inl before) = omega (arith, is, lt, before)
    not_after a b is lt (inr (same, rest)) = omega (arith, is, lt, same)

    order_of : (a b : Seat width (done ++ block)) → Where a → Where b → Precedes (address a) (address b) → number_at numbers a < number_at numbers b
    order_of a b (inl h) (inl g) before = so_far.in_order (old_seat a h) (old_seat b g) before
    order_of a b (inl h) (inr g) before =
        let lt = so_far.below (old_seat a h) in
        let q = own b g in
        omega (arith, lt, q.value)
    order_of a b (inr h) (inl g) before = absurd (not_after a b (own a h).fragment (earlier_at b g) before)
    order_of a b (inr h) (inr g) before = block_order a b h g before

    pub with_block : Numbered (done ++ block)
    with_block = record {
      below = λ a. below_of a (where_is a);
      some = λ m lt. some_seat m lt (cases_lt m (seats done));
      in_order = λ a b before. order_of a b (where_is a) (where_is b) before;
    }
