-- An operator that gives late, by its kernel.
use Rattle.std.specs.Prelude.{false, true, not, ◌&&◌}
use Rattle.col_pages.specs.Fits.{IsOfTypes}
use Rattle.operator_core.specs.declared.operator.Operator.{Ghosts}
use Rattle.operator_core.specs.declared.late.Kernel.{Ghosts as KernelGhosts}
use Rattle.operator_core.specs.Late.{LateState}

abbrev pub late : {K : Type 0} → KernelGhosts K → Ghosts (LateState K)
late k = record {
  may_give = λ s. k.may_give s.kernel;
  may_still_fail = λ s. k.may_fail s.kernel;
  takes = λ s page. IsOfTypes (k.pages s.kernel).takes page;
  page_size = λ s. (k.pages s.kernel).size;
  is_full = λ _. false;
  gives_late = λ _. true;
  needs_input = λ s. not s.is_told;
  holds_row = λ s. s.is_told && k.holds_row s.kernel;
  is_told = λ s. s.is_told;
  is_finished = λ s. s.is_told && k.is_done s.kernel;
  waits = λ _. false;
  bell = λ _. 0;
  knows = λ _. true;
  empty_looks = λ _. 0;
  looked_at = λ _. 0;
  went = λ _ _ _. Unit {0};
  counted = λ _ _. Unit {0};
  as_made = λ s. record { kernel = k.as_made s.kernel; is_told = false };
  may_learn = λ _ _. ⊥;
}
