-- What a test says.
-- Assumes nothing.
use mathlib.Core.Path.{◌≡◌, subst}
use mathlib.Core.Bool.{Bool, true, false}
use Rattle.restore.specs.Inner.{Says}

pub says_true : {P : Type 0} (b : Bool) → b ≡ true → Says b P → P
says_true {P} b e w = subst (λ b. Says b P) e w

pub says_false : {P : Type 0} (b : Bool) → b ≡ false → Says b P → ¬ P
says_false {P} b e w = subst (λ b. Says b P) e w
