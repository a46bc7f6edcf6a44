-- Laws of an operator that gives late.
use Rattle.std.specs.Prelude.{◌≡◌, ◌↔◌, Bool, true, false, ◌&&◌, refl}

pub told-holds : (told held : Bool) {P : Type 0} → told ≡ true → (held ≡ false) ↔ P → ((told && held) ≡ false) ↔ P
told-holds true held t h = h
told-holds false held t h = cc

pub late-finished : (told : Bool) {held done : Bool} {Calm : Type 0} → (done ≡ true) ↔ ((held ≡ false) × Calm)
    → ((told && done) ≡ true) ↔ ((told ≡ true) × ((told && held) ≡ false) × Calm)
late-finished true d = ((λ e. (refl, (d.0 e).0, (d.0 e).1)), (λ h. d.1 (h.1, h.2)))
late-finished false d = ((λ e. cc), (λ h. cc (h.0)))
