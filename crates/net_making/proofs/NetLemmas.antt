-- The net of a layout, from its wiring.
use Rattle.std.proofs.Common.{◌≡◌, ℕ, zero, suc, ◌+◌, ◌*◌, ◌<◌, ◌≤◌, max, List, [], ◌∷◌, ◌++◌, All, Result, Ok, Err, IfOk, Option, length, get_or, map, Some, None, refl, ap, sym, subst, ◌∙◌, arith, append_assoc}
use Rattle.std.specs.Prelude.{flat_map, option_map, replicate, slice_get}
use Rattle.std.specs.List.{range_with_len}
use Rattle.std.proofs.lemmas.List.{get_or-replicate, length-map, length-replicate, map-append}
use Rattle.std.proofs.lemmas.List.Elements.{All-head, All-tail}
use Rattle.std.proofs.lemmas.List.FromFn.{get_or-range_with_len, length-range_with_len}
use Rattle.std.proofs.lemmas.Option.{get_or_from_slice_get, slice_get-get_or, slice_get-map, slice_get_within}
use Rattle.sql_values.specs.declared.table.Table.{Table}
use Rattle.sql_values.specs.declared.types.SqlType.{SqlType}
use Rattle.split_source.specs.Seats.{ClaimsId, ClaimsState, SeatState}
use Rattle.split_source.specs.Splits.{split_count}
use Rattle.hash_join.specs.Cells.{CellState}
use Rattle.dyn_filter.specs.Cells as filter
use Rattle.plan_wiring.specs.declared.shared.Shared.{Shared}
use Rattle.plan_wiring.specs.Bells.{gather_bells, spread_bells}
use Rattle.plan_wiring.specs.Handed.{SeatsForm, new_seats}
use Rattle.plan_wiring.specs.Shares.{ClaimForm, ShareForm, claims_of, filter_parts, new_claims, rows_at, share_of, shares_of}
use Rattle.plan_wiring.specs.Wirings.{bells_of, cell_bells, claims_view, filter_bells, parts_of, share_view}
use Rattle.net_parts.specs.Fits.{TablesFit}
use Rattle.net_parts.specs.Stops.{rows_of_table}
use Rattle.net_parts.specs.Drivers.{DriverState}
use Rattle.net_parts.specs.Filters.{filters_built}
use Rattle.net_parts.specs.Pipes.{PipeForm, table}
use Rattle.net_parts.specs.Makes.{LayoutFits}
use Rattle.net_parts.specs.Nets.{AreDriversOf, Links, NetForm}
use Rattle.net_parts.specs.Types.{PipesAreTyped, PipeTypes}
use Rattle.net_parts.specs.PipeTypes as declared
use Rattle.net_parts.specs.Tables.{types_in}
use Rattle.net_parts.specs.Cells.{HasCells, HasFilterCells, cell_at}
use Rattle.net_parts.specs.Labels.{IsLabelled, at_place, claims_id, labels_of, no_claims}
use Rattle.net_parts.specs.Lanes.{lane_at}
use Rattle.net_parts.specs.Stocks.{StockForm, stock_of}
use Rattle.net_parts.specs.Makings.{AreFew, CanMake, HaveFilterCells, InNets, IsNetFor, IsStocked, layout_in, typing_in}
use Rattle.net_parts.specs.declared.making.Making.{Making}
use Rattle.net_parts.proofs.LabelLemmas.{all_labelled}
use Rattle.net_parts.proofs.AnswerLemmas.{some_same}
use Rattle.net_making.specs.Nets.{HasTask, IsNewNetOf}
use Rattle.net_making.specs.Slots.{IsNew}

pub can_make : (m : Making) (layout : List PipeForm) (list : List declared.PipeTypes) → layout ≡ layout_in m → m.types.now ≡ list → PipesAreTyped (layout_in m) (types_in list)
    → ((types : ℕ → PipeTypes) → PipesAreTyped layout types → LayoutFits m.tables.now layout types) → TablesFit m.tables.now → AreFew m.tables.now → HaveFilterCells layout m.filters.now
    → 0 < m.split → (0 < m.page) × (m.page ≤ 8192) → CanMake m
can_make m layout list same listed typed fits readable few filters split page =
    let own : PipesAreTyped (layout_in m) (typing_in m) = subst (λ (ts : List declared.PipeTypes). PipesAreTyped (layout_in m) (types_in ts)) (sym listed) typed in
    record {
      typed = own;
      fits = subst (λ (l : List PipeForm). LayoutFits m.tables.now l (typing_in m)) same (fits (typing_in m) (subst (λ (l : List PipeForm). PipesAreTyped l (typing_in m)) (sym same) own));
      readable = readable;
      few = few;
      filters = subst (λ (l : List PipeForm). HaveFilterCells l m.filters.now) same filters;
      split = split;
      page = page.0;
      most = page.1;
    }

-- the claims of a pipe are new ones of this form
record AreClaims (claims : ClaimsId) (form : ClaimForm) : Type 0 where
  count : claims.of.count ≡ form.count
  seats : claims.of.seats ≡ form.seats

are_claims : (claims : Option ClaimsState) (form : ClaimForm) → option_map claims_view claims ≡ Some form → AreClaims (claims_id claims) form
are_claims None form same = absurd cc
are_claims (Some claims) form same =
    let is = some_same (claims_view claims) form same in
    record { count = ap (λ (f : ClaimForm). f.count) is; seats = ap (λ (f : ClaimForm). f.seats) is }

-- the claims of a pipe that reads a table count its splits, and have a seat for each driver
claims_there : (all layout : List PipeForm) (tables : List Table) (split own : ℕ) (pipes : List Shared) → map share_view pipes ≡ shares_of all tables split own layout
    → (at : ℕ) (pipe : PipeForm) → slice_get layout at ≡ Some pipe → (place : ℕ) (columns : List ℕ) (kinds : List SqlType) → pipe.source ≡ table place columns kinds
    → AreClaims (at_place no_claims (map (λ (s : Shared). claims_id s.claims) pipes) at) (new_claims (split_count (length (rows_at tables place)) split) (pipe.tasks * pipe.drivers))
claims_there all [] tables split own pipes shares at pipe there place columns kinds is = absurd cc
claims_there all (x ∷ layout) tables split own [] shares at pipe there place columns kinds is = absurd (nothing shares)
  where
    nothing : [] ≡ share_of all tables split own x ∷ shares_of all tables split (own + 1) layout → ⊥
    nothing same = cc
claims_there all (x ∷ layout) tables split own (s ∷ pipes) shares zero pipe there place columns kinds is =
    let first : share_view s ≡ share_of all tables split own x = cc in
    let source : x.source ≡ table place columns kinds = ap (λ (p : PipeForm). p.source) (some_same x pipe there) ∙ is in
    let claims = ap (λ (f : ShareForm). f.claims) first ∙ ap (λ form. claims_of tables split (x.tasks * x.drivers) form) source in
    let own = are_claims s.claims (new_claims (split_count (length (rows_at tables place)) split) (x.tasks * x.drivers)) claims in
    subst (λ (p : PipeForm). AreClaims (claims_id s.claims) (new_claims (split_count (length (rows_at tables place)) split) (p.tasks * p.drivers))) (some_same x pipe there) own
claims_there all (x ∷ layout) tables split own (s ∷ pipes) shares (suc at) pipe there place columns kinds is =
    let rest : map share_view pipes ≡ shares_of all tables split (own + 1) layout = cc in
    claims_there all layout tables split (own + 1) pipes rest at pipe there place columns kinds is

pub is_stocked : (m : Making) (layout : List PipeForm) (pipes : List Shared) (stock : StockForm) → layout ≡ layout_in m
    → map share_view pipes ≡ shares_of layout m.tables.now m.split 0 layout → stock ≡ stock_of (map new_seats pipes) → IsStocked m stock
is_stocked m layout pipes stock same shares is =
    let labelled : IsLabelled (labels_of pipes) stock = subst (IsLabelled (labels_of pipes)) (sym is) (all_labelled pipes) in
    record {
      labels = labels_of pipes;
      labelled = labelled;
      splits = λ at place columns kinds has seat on.
          ap (λ (s : SeatState). s.claims.of.count) (labelled.claims at seat on)
          ∙ (claims_there layout layout m.tables.now m.split 0 pipes shares at has.pipe (ap (λ (l : List PipeForm). slice_get l at) same ∙ has.there) place columns kinds has.is).count;
    }

-- an item of a list, wherever it is
record IsIn {X : Type 0} (list : List X) (x : X) : Type 0 where
  place : ℕ
  there : slice_get list place ≡ Some x

module _ {X : Type 0} where
  at_left : (xs ys : List X) (k : ℕ) (x : X) → slice_get xs k ≡ Some x → slice_get (xs ++ ys) k ≡ Some x
  at_left [] ys k x there = absurd cc
  at_left (y ∷ xs) ys zero x there = there
  at_left (y ∷ xs) ys (suc k) x there = at_left xs ys k x there

  at_right : (xs ys : List X) (k : ℕ) (x : X) → slice_get ys k ≡ Some x → IsIn (xs ++ ys) x
  at_right [] ys k x there = record { place = k; there = there }
  at_right (y ∷ xs) ys k x there = let below = at_right xs ys k x there in record { place = suc below.place; there = below.there }

-- what a bell is of: the name of the cell of a join, and those of the parts of the cell of a filter
abbrev Tag : Type 0
Tag = ℕ × List ℕ

abbrev no_tag : Tag
no_tag = (0, [])

abbrev bell_in : ℕ × Tag → ℕ
bell_in b = b.0

abbrev bare : ℕ → ℕ × Tag
bare bell = (bell, no_tag)

abbrev named : CellState → ℕ × Tag
named cell = (cell.bell, (cell.name, []))

abbrev parted : filter.CellState → ℕ × Tag
parted cell = (cell.bell, (0, cell.parts))

-- the bells of what a pipe has, each with what it is of
abbrev tagged_bells : Shared → List (ℕ × Tag)
tagged_bells s =
    map bare (flat_map gather_bells s.gathers.items)
    ++ (map bare (flat_map spread_bells s.spreads.items) ++ (map named s.cells.items ++ map parted s.filters.items))

abbrev all_bells : List Shared → List (ℕ × Tag)
all_bells pipes = flat_map tagged_bells pipes

-- the bells of tagged ones are those that were tagged
untagged : {X : Type 0} (tag : X → ℕ × Tag) (bell : X → ℕ) → ((x : X) → bell_in (tag x) ≡ bell x) → (xs : List X) → map bell_in (map tag xs) ≡ map bell xs
untagged tag bell same [] = refl
untagged tag bell same (x ∷ xs) = λ i. same x i ∷ untagged tag bell same xs i

bare_bells : (bells : List ℕ) → map bell_in (map bare bells) ≡ bells
bare_bells [] = refl
bare_bells (bell ∷ bells) = ap (λ (bs : List ℕ). bell ∷ bs) (bare_bells bells)

own_bells : (s : Shared) → map bell_in (tagged_bells s) ≡ bells_of s
own_bells s =
    let gathers = flat_map gather_bells s.gathers.items in
    let spreads = flat_map spread_bells s.spreads.items in
    let cells = cell_bells s.cells.items in
    let filters = filter_bells s.filters.items in
    let looks = map named s.cells.items ++ map parted s.filters.items in
    map-append bell_in (map bare gathers) (map bare spreads ++ looks)
    ∙ (λ i. bare_bells gathers i ++ (map-append bell_in (map bare spreads) looks ∙ (λ j. bare_bells spreads j ++ looking j)) i)
    ∙ sym (append_assoc gathers spreads (cells ++ filters)) ∙ sym (append_assoc (gathers ++ spreads) cells filters)
  where
    looking : map bell_in (map named s.cells.items ++ map parted s.filters.items) ≡ cell_bells s.cells.items ++ filter_bells s.filters.items
    looking =
        map-append bell_in (map named s.cells.items) (map parted s.filters.items)
        ∙ (λ i. untagged named (λ (cell : CellState). cell.bell) (λ cell. refl) s.cells.items i
        ++ untagged parted (λ (cell : filter.CellState). cell.bell) (λ cell. refl) s.filters.items i)

every_bell : (pipes : List Shared) → map bell_in (all_bells pipes) ≡ flat_map bells_of pipes
every_bell [] = refl
every_bell (s ∷ pipes) = map-append bell_in (tagged_bells s) (all_bells pipes) ∙ (λ i. own_bells s i ++ every_bell pipes i)

-- the bell of a place is its number
numbered : (all : List (ℕ × Tag)) (n : ℕ) → map bell_in all ≡ range_with_len 0 n → (k : ℕ) (x : ℕ × Tag) → slice_get all k ≡ Some x → x.0 ≡ k
numbered all n are k x there =
    let mapped : slice_get (map bell_in all) k ≡ Some x.0 = slice_get-map bell_in all k ∙ ap (option_map bell_in) there in
    let within = slice_get_within all k x there in
    let count : length all ≡ n = sym (length-map all bell_in) ∙ ap length are ∙ length-range_with_len 0 n in
    sym (get_or_from_slice_get (map bell_in all) k x.0 0 mapped) ∙ ap (λ bs. get_or bs k 0) are
    ∙ get_or-range_with_len 0 n k 0 (omega (arith, within, count)) ∙ omega arith

abbrev tag_in : Option (ℕ × Tag) → Tag
tag_in None = no_tag
tag_in (Some b) = b.1

-- what the bell of a number is of
abbrev tag_of : List (ℕ × Tag) → ℕ → Tag
tag_of all bell = tag_in (slice_get all bell)

tag_is : (all : List (ℕ × Tag)) (n : ℕ) → map bell_in all ≡ range_with_len 0 n → (x : ℕ × Tag) → IsIn all x → x.1 ≡ tag_of all x.0
tag_is all n are x isin = sym (ap (tag_of all) (numbered all n are isin.place x isin.there) ∙ ap tag_in isin.there)

abbrev pub cells_in : List Shared → List (List CellState)
cells_in pipes = map (λ (s : SeatsForm). s.cells) (map new_seats pipes)

abbrev pub filter_cells_in : List Shared → List (List filter.CellState)
filter_cells_in pipes = map (λ (s : SeatsForm). s.filters) (map new_seats pipes)

-- what a pipe has is among what all have
in_all : (s : Shared) (pipes : List Shared) (x : ℕ × Tag) → IsIn (tagged_bells s) x → IsIn (all_bells (s ∷ pipes)) x
in_all s pipes x own = record { place = own.place; there = at_left (tagged_bells s) (all_bells pipes) own.place x own.there }

-- and so is what is among its cells
in_looks : (s : Shared) (x : ℕ × Tag) → IsIn (map named s.cells.items ++ map parted s.filters.items) x → IsIn (tagged_bells s) x
in_looks s x own =
    let gathers = map bare (flat_map gather_bells s.gathers.items) in
    let spreads = map bare (flat_map spread_bells s.spreads.items) in
    let looks = map named s.cells.items ++ map parted s.filters.items in
    let behind = at_right spreads looks own.place x own.there in
    at_right gathers (spreads ++ looks) behind.place x behind.there

-- a cell's bell is among them
cell_in : (pipes : List Shared) (at task : ℕ) (cell : CellState) → cell_at (cells_in pipes) at task ≡ Some cell
    → IsIn (all_bells pipes) (named cell)
cell_in [] at task cell there = absurd (nothing there)
  where
    nothing : cell_at {C = CellState} [] at task ≡ Some cell → ⊥
    nothing same = cc
cell_in (s ∷ pipes) zero task cell there =
    let mapped : slice_get (map named s.cells.items) task ≡ Some (named cell) = slice_get-map named s.cells.items task ∙ ap (option_map named) there in
    let own : IsIn (map named s.cells.items ++ map parted s.filters.items) (named cell) =
    record { place = task; there = at_left (map named s.cells.items) (map parted s.filters.items) task (named cell) mapped } in
    in_all s pipes (named cell) (in_looks s (named cell) own)
cell_in (s ∷ pipes) (suc at) task cell there =
    let below = cell_in pipes at task cell there in at_right (tagged_bells s) (all_bells pipes) below.place (named cell) below.there

filter_in : (pipes : List Shared) (at place : ℕ) (cell : filter.CellState) → cell_at (filter_cells_in pipes) at place ≡ Some cell
    → IsIn (all_bells pipes) (parted cell)
filter_in [] at place cell there = absurd (nothing there)
  where
    nothing : cell_at {C = filter.CellState} [] at place ≡ Some cell → ⊥
    nothing same = cc
filter_in (s ∷ pipes) zero place cell there =
    let mapped : slice_get (map parted s.filters.items) place ≡ Some (parted cell) = slice_get-map parted s.filters.items place ∙ ap (option_map parted) there in
    let own = at_right (map named s.cells.items) (map parted s.filters.items) place (parted cell) mapped in
    in_all s pipes (parted cell) (in_looks s (parted cell) own)
filter_in (s ∷ pipes) (suc at) place cell there =
    let below = filter_in pipes at place cell there in at_right (tagged_bells s) (all_bells pipes) below.place (parted cell) below.there

abbrev bell_of : Option CellState → ℕ
bell_of None = 0
bell_of (Some cell) = cell.bell

abbrev filter_bell_of : Option filter.CellState → ℕ
filter_bell_of None = 0
filter_bell_of (Some cell) = cell.bell

-- what the drivers share
abbrev links_of : Making → List Shared → Links
links_of m pipes = record {
  claims = (labels_of pipes).claims;
  gathers = λ at task. (labels_of pipes).gathers (lane_at m.lanes.now.gathers.items at task);
  spreads = λ at task. (labels_of pipes).spreads (lane_at m.lanes.now.spreads.items at task);
  cells = λ at task. bell_of (cell_at m.cells.now at task);
  names = λ bell. (tag_of (all_bells pipes) bell).0;
  filters = λ at place. filter_bell_of (cell_at m.filters.now at place);
  parts = λ bell. (tag_of (all_bells pipes) bell).1;
}

abbrev net_of : Making → List Shared → NetForm
net_of m pipes = record {
  layout = layout_in m;
  tables = map rows_of_table m.tables.now;
  split = m.split;
  types = typing_in m;
  links = links_of m pipes;
}

module _ (m : Making) (pipes : List Shared) (n : ℕ) (bells : flat_map bells_of pipes ≡ range_with_len 0 n) where
  tagged : (x : ℕ × Tag) → IsIn (all_bells pipes) x → x.1 ≡ tag_of (all_bells pipes) x.0
  tagged x own = tag_is (all_bells pipes) n (every_bell pipes ∙ bells) x own

  has_cells : m.cells.now ≡ cells_in pipes → HasCells (links_of m pipes) m.cells.now
  has_cells cells at task cell there =
      let own = cell_in pipes at task cell (ap (λ cs. cell_at cs at task) (sym cells) ∙ there) in
      (ap bell_of there, ap (λ (t : Tag). t.0) (tagged (named cell) own))

  has_filter_cells : m.filters.now ≡ filter_cells_in pipes → HasFilterCells (links_of m pipes) m.filters.now
  has_filter_cells filters at place cell there =
      let own = filter_in pipes at place cell (ap (λ cs. cell_at cs at place) (sym filters) ∙ there) in
      (ap filter_bell_of there, ap (λ (t : Tag). t.1) (sym (tagged (parted cell) own)))

-- the cell of the filter at a place, by how many parts each has
parts_there : (cells : List filter.CellState) (place parts : ℕ) → slice_get (map parts_of cells) place ≡ Some parts
    → (cell : filter.CellState) × (slice_get cells place ≡ Some cell) × (length cell.parts ≡ parts)
parts_there [] place parts there = absurd cc
parts_there (cell ∷ cells) zero parts there = (cell, refl, some_same (parts_of cell) parts there)
parts_there (cell ∷ cells) (suc place) parts there = parts_there cells place parts there

each_alike : (count place parts : ℕ) → place < count → slice_get (replicate count parts) place ≡ Some parts
each_alike count place parts less =
    let within : place < length (replicate count parts) = omega (arith, less, length-replicate count parts) in
    slice_get-get_or (replicate count parts) place 0 within ∙ ap Some (get_or-replicate count place parts 0 less)

-- each filter of a join has a cell, with a part for each task
filters_there : (all layout : List PipeForm) (tables : List Table) (split own : ℕ) (pipes : List Shared) → All HasTask layout
    → map share_view pipes ≡ shares_of all tables split own layout → HaveFilterCells layout (filter_cells_in pipes)
filters_there all [] tables split own pipes tasks shares at pipe there place less = absurd cc
filters_there all (x ∷ layout) tables split own [] tasks shares at pipe there place less = absurd (nothing shares)
  where
    nothing : [] ≡ share_of all tables split own x ∷ shares_of all tables split (own + 1) layout → ⊥
    nothing same = cc
filters_there all (x ∷ layout) tables split own (s ∷ pipes) tasks shares zero pipe there place less =
    let first : share_view s ≡ share_of all tables split own x = cc in
    let same : x ≡ pipe = some_same x pipe there in
    let parts : map parts_of s.filters.items ≡ filter_parts pipe.tasks pipe.target =
    ap (λ (f : ShareForm). f.filters) first ∙ ap (λ (p : PipeForm). filter_parts p.tasks p.target) same in
    let some : HasTask pipe = subst HasTask same (All-head HasTask x layout tasks) in
    let all_tasks : max pipe.tasks 1 ≡ pipe.tasks = omega (arith, some) in
    let mapped : slice_get (map parts_of s.filters.items) place ≡ Some pipe.tasks =
    ap (λ (ns : List ℕ). slice_get ns place) parts ∙ each_alike (length (filters_built pipe.target)) place (max pipe.tasks 1) less ∙ ap Some all_tasks in
    let cell = parts_there s.filters.items place pipe.tasks mapped in
    record { cell = cell.0; there = cell.1; count = cell.2 }
filters_there all (x ∷ layout) tables split own (s ∷ pipes) tasks shares (suc at) pipe there place less =
    let rest : map share_view pipes ≡ shares_of all tables split (own + 1) layout = cc in
    let below = filters_there all layout tables split (own + 1) pipes (All-tail HasTask x layout tasks) rest at pipe there place less in
    record { cell = below.cell; there = below.there; count = below.count }

pub have_filter_cells : (layout : List PipeForm) (tables : List Table) (split : ℕ) (pipes : List Shared) (cells : List (List filter.CellState))
    → All HasTask layout → map share_view pipes ≡ shares_of layout tables split 0 layout → cells ≡ filter_cells_in pipes
    → HaveFilterCells layout cells
have_filter_cells layout tables split pipes cells tasks shares are =
    subst (HaveFilterCells layout) (sym are) (filters_there layout layout tables split 0 pipes tasks shares)

pub net_for : (m : Making) (pipes : List Shared) (n : ℕ) → m.cells.now ≡ cells_in pipes → m.filters.now ≡ filter_cells_in pipes
    → flat_map bells_of pipes ≡ range_with_len 0 n → IsNetFor m (labels_of pipes) (net_of m pipes)
net_for m pipes n cells filters bells = record {
  layout = refl;
  types = refl;
  tables = refl;
  split = refl;
  cells = has_cells m pipes n bells cells;
  filters = has_filter_cells m pipes n bells filters;
  claims = λ at. refl;
  gathers = λ at task. refl;
  spreads = λ at task. refl;
}

pub net_made : {V E : Type 0} (items : V → List DriverState) (r : Result V E) (m : Making) (layout : List PipeForm) (pipes : List Shared) (stock : StockForm) (n : ℕ) → layout ≡ layout_in m
    → map share_view pipes ≡ shares_of layout m.tables.now m.split 0 layout → stock ≡ stock_of (map new_seats pipes) → m.cells.now ≡ cells_in pipes → m.filters.now ≡ filter_cells_in pipes
    → flat_map bells_of pipes ≡ range_with_len 0 n → IfOk r (λ (v : V). All IsNew (items v)) → IfOk r (λ (v : V). InNets m stock (λ net. AreDriversOf net (items v)))
    → IfOk r (λ (v : V). IsNewNetOf layout (map rows_of_table m.tables.now) m.split (items v))
net_made items (Ok v) m layout pipes stock n same shares is cells filters bells fresh are = record {
  net = net_of m pipes;
  of = sym same;
  over = refl;
  cut = refl;
  are = are (labels_of pipes) (subst (IsLabelled (labels_of pipes)) (sym is) (all_labelled pipes)) (net_of m pipes) (net_for m pipes n cells filters bells);
  seats = λ at pipe place columns kinds there source. (claims_there layout layout m.tables.now m.split 0 pipes shares at pipe there place columns kinds source).seats;
  fresh = fresh;
}
net_made items (Err e) m layout pipes stock n same shares is cells filters bells fresh are = tt
