-- The seats of all drivers of a pipe.
use Rattle.std.proofs.Common.{◌≡◌, ◌<◌, ◌+◌, ◌*◌, ◌∙◌, ℕ, zero, suc, List, [], Option, Some, None, arith, length, refl, sym, subst, ap}
use Rattle.std.specs.Prelude.{All, option_map, slice_get, unwrap_or}
use Rattle.std.proofs.lemmas.List.{length-append}
use Rattle.std.proofs.lemmas.List.Elements.{All-append, All-cons, All-nil}
use Rattle.bag_laws.specs.Gather.{gather}
use Rattle.driver_loop.specs.Drivers.{DriverState}
use Rattle.driver_net_laws.specs.Nets.{AreDriversOf, HasDriver, IsDriverOf, NetForm}
use Rattle.driver_net_laws.specs.Settled.{in_pipe, in_task, listed, of_lane}
use Rattle.plan_layout.specs.Pipes.{PipeForm, driver_number}
use Rattle.net_closing.specs.Left.{at_place}

first_listed : {X : Type 0} (o : Option X) → listed (slice_get (listed o) 0) ≡ listed o
first_listed None = refl
first_listed (Some x) = refl

-- one or none is at the first place
pub at_first : {X : Type 0} (of : DriverState → Option X) → at_place (λ d. listed (of d)) 0 ≡ (λ d. listed (of d))
at_first of = λ i d. first_listed (of d) i

pub all_listed : {X : Type 0} (P : X → Type 0) (o : Option X) → ((x : X) → o ≡ Some x → P x) → All P (listed o)
all_listed P None each = All-nil P
all_listed P (Some x) each = All-cons P x [] (each x refl) (All-nil P)

pub all_gathered : {X : Type 0} (P : X → Type 0) (n : ℕ) (lists : ℕ → List X) → ((k : ℕ) → k < n → All P (lists k)) → All P (gather n lists)
all_gathered P zero lists each = All-nil P
all_gathered P (suc n) lists each = All-append P (gather n lists) (lists n) (all_gathered P n lists (λ k lt. each k (omega (arith, lt)))) (each n (omega arith))

pub length_gathered : {X : Type 0} (w n : ℕ) (lists : ℕ → List X) → ((k : ℕ) → k < n → length (lists k) ≡ w) → length (gather n lists) ≡ n * w
length_gathered w zero lists each = omega arith
length_gathered w (suc n) lists each =
    length-append (gather n lists) (lists n) ∙ (λ i. length_gathered w n lists (λ k lt. each k (omega (arith, lt))) i + each n (omega arith) i) ∙ next
  where
    next : n * w + w ≡ suc n * w
    next = omega arith

-- what the driver of a lane has is that of the lane
pub lane_has : {X : Type 0} (of : DriverState → List X) (drivers : List DriverState) (pipe : PipeForm) (task lane : ℕ) (d : DriverState) → slice_get drivers (driver_number pipe task lane) ≡ Some d
    → of_lane of drivers pipe task lane ≡ of d
lane_has of drivers pipe task lane d there = ap (λ (o : Option DriverState). unwrap_or (option_map of o) []) there

module _ (net : NetForm) (drivers : List DriverState) (are : AreDriversOf net drivers) (at : ℕ) (pipe : PipeForm) (there : slice_get net.layout at ≡ Some pipe) where
  driver_at : (task lane : ℕ) → task < pipe.tasks → lane < pipe.drivers → HasDriver net drivers at pipe task lane
  driver_at task lane in_tasks in_lanes = are.each at pipe there task lane in_tasks in_lanes

  module _ {X : Type 0} (P : X → Type 0) (of : DriverState → List X) (task : ℕ) (in_tasks : task < pipe.tasks)
      (each : (lane : ℕ) (d : DriverState) → IsDriverOf net at pipe task lane d → All P (of d)) where
    -- what holds of what each driver has, holds of what all of a task have
    pub all_in_task : All P (in_task of drivers pipe task)
    all_in_task = all_gathered P pipe.drivers (of_lane of drivers pipe task) (λ lane in_lanes.
        let h = driver_at task lane in_tasks in_lanes in
        subst (All P) (sym (lane_has of drivers pipe task lane h.driver h.there)) (each lane h.driver h.is))

  module _ {X : Type 0} (P : X → Type 0) (of : DriverState → List X) (each : (task lane : ℕ) (d : DriverState) → IsDriverOf net at pipe task lane d → All P (of d)) where
    pub all_in_pipe : All P (in_pipe of drivers pipe)
    all_in_pipe = all_gathered P pipe.tasks (in_task of drivers pipe) (λ task in_tasks. all_in_task P of task in_tasks (each task))

  module _ {X : Type 0} (of : DriverState → List X) (each : (task lane : ℕ) (d : DriverState) → IsDriverOf net at pipe task lane d → length (of d) ≡ 1) where
    pub count_in_pipe : length (in_pipe of drivers pipe) ≡ pipe.tasks * pipe.drivers
    count_in_pipe = length_gathered pipe.drivers pipe.tasks (in_task of drivers pipe) (λ task in_tasks.
        length_gathered 1 pipe.drivers (of_lane of drivers pipe task) (λ lane in_lanes.
        let h = driver_at task lane in_tasks in_lanes in
        ap (λ (l : List X). length l) (lane_has of drivers pipe task lane h.driver h.there) ∙ each task lane h.driver h.is) ∙ one)
      where
        one : pipe.drivers * 1 ≡ pipe.drivers
        one = omega arith
