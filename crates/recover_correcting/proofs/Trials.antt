-- Trying each tray that is not erased, over any field.
-- Assumes nothing.
use mathlib.Core.Path.{◌≡◌, refl, sym, ◌∙◌, subst}
use mathlib.Core.Bool.{Bool, true, false, false≢true}
use mathlib.Core.List.{List}
use Prim.Native.Nat.{ℕ, ◌+◌, ◌-◌, ◌<◌, ◌≤◌}
use native.Mathlib.Omega.{arith}
use borrow.Author.Count.{below_more}
use lib.ListN.{length, set}
use Rattle.lists.specs.Lists.{absent}
use Rattle.lists.proofs.Numbered.{absent_true, absent_all}
use Rattle.algebra.specs.Shape.{Field}
use Rattle.layout.specs.declared.Layout.{Layout}
use Rattle.layout.specs.Layout.{trays, layers, Admissible}
use Rattle.restore.specs.Inner.{LayerFits, Says, Erasing, RestoredTo}
use Rattle.restore.proofs.Says.{says_true, says_false}
use Rattle.recover_correcting.specs.RecoverCorrecting.{with_tray, Surviving}
use Rattle.recover_correcting.specs.Inner.{Trying, Begun, Fitting, Tried, Found, Replaced}
use Rattle.recover_correcting.proofs.WithTray.{with_listed, put_is, put_begun}

module _ {A : Type 0} (f : Field A) (l : Layout) (es c : List ℕ) (x : ℕ) where
  tray_of : (b : Bool) → b ≡ absent es x → b ≡ true → x < trays l → Surviving l es x
  tray_of b e n h = record { inside = h; kept = λ k q z. absent_all es x (sym e ∙ n) k q (sym z) }

  -- an erased tray is not tried
  pub tried_listed : (list : List ℕ) (b : Bool) → b ≡ absent es x → b ≡ false → Begun es list → Tried f l es c x list false
  tried_listed list b e n q = record {
    begun = q;
    yes_list = λ z. absurd (false≢true z);
    yes_fits = λ z. absurd (false≢true z);
    no_fits = λ z w. false≢true (sym (sym e ∙ n) ∙ sym (absent_true es x (λ k h y. w.tray.kept k h (sym y))));
  }

  module _ (total : ℕ) (list now : List ℕ) (told : Trying f.order l total es c) (begun : Begun es list) (h : x < trays l) (b : Bool)
      (e : b ≡ absent es x) (n : b ≡ true)
      (put : now ≡ set list (length list - 1) x) where
    is_with : now ≡ with_tray es x
    is_with = put ∙ put_is es list x begun

    pub try_told : Erasing l total now c × Admissible f.order l
    try_told = subst (λ y. Erasing l total y c × Admissible f.order l) (sym is_with) (
      record {
        adm = told.wrong.adm.cabinet;
        total_is = told.total_is;
        long = told.wrong.long;
        listed = with_listed l es x told.wrong.listed (tray_of b e n h) (let q = told.wrong.few in omega arith);
      },
      told.wrong.adm,
    )

    pub tried_so : (r : Bool) → Says r ((j : ℕ) → j < layers l → LayerFits f l now c j) → Tried f l es c x now r
    tried_so r says = record {
      begun = subst (Begun es) (sym is_with) (put_begun es x);
      yes_list = λ z. is_with;
      yes_fits = λ z. record {
        tray = tray_of b e n h;
        fits = subst (λ y. (j : ℕ) → j < layers l → LayerFits f l y c j) is_with
            (says_true r z says);
      };
      no_fits = λ z w. says_false r z says (subst (λ y. (j : ℕ) → j < layers l → LayerFits f l y c j) (sym is_with) w.fits);
    }

-- the loop over the trays
module _ {A : Type 0} (f : Field A) (l : Layout) (es c : List ℕ) where
  -- no tray below x fits
  abbrev pub NoneBelow : ℕ → Type 0
  NoneBelow x = (i : ℕ) → i < x → ¬ Fitting f l es c i

  pub none_more : (x : ℕ) (list : List ℕ) (r : Bool) → NoneBelow x → Tried f l es c x list r → r ≡ false → NoneBelow (x + 1)
  none_more x list r g t e = below_more _ x g (t.no_fits e)

  pub found_one : (x n : ℕ) (list : List ℕ) (r : Bool) → n ≡ trays l → x < n → Tried f l es c x list r → r ≡ true → Found f l es c list x
  found_one x n list r e h t q = record {
    high = omega arith;
    list_is = λ z. t.yes_list q;
    fits = λ z. t.yes_fits q;
    none = λ z. absurd
        (omega arith);
  }

  pub found_none : (x n : ℕ) (list : List ℕ) → n ≡ trays l → n ≤ x → NoneBelow x → Found f l es c list n
  found_none x n list e h g = record {
    high = omega arith;
    list_is = λ z. absurd (omega arith);
    fits = λ z. absurd (omega arith);
    none = λ z y w. g y (let q = w.tray.inside in omega arith) w;
  }

  module _ (x n : ℕ) (list : List ℕ) (e : n ≡ trays l) (found : Found f l es c list x) where
    pub replaced_none : n ≤ x → Replaced f l es c c n
    replaced_none h = record {
      high = omega arith;
      fits = λ z. absurd (omega arith);
      restored = λ z. absurd (omega arith);
      none = λ z. found.none (let q = found.high in omega arith);
      kept = λ z. refl;
    }

    module _ (h : x < n) where
      inside : x < trays l
      inside = omega arith

      pub replace_told : (total : ℕ) → Trying f.order l total es c → Erasing l total list c
      replace_told total told = subst (λ y. Erasing l total y c) (sym (found.list_is inside)) (record {
        adm = told.wrong.adm.cabinet;
        total_is = told.total_is;
        long = told.wrong.long;
        listed = with_listed l es x told.wrong.listed (found.fits inside).tray (let q = told.wrong.few in omega arith);
      })

      pub replaced_one : (d : List ℕ) → RestoredTo f l list c (layers l) d → Replaced f l es c d x
      replaced_one d r = record {
        high = omega arith;
        fits = λ z. found.fits inside;
        restored = λ z. subst (λ y. RestoredTo f l y c (layers l) d) (found.list_is inside) r;
        none = λ z. absurd (omega arith);
        kept = λ z. absurd (omega arith);
      }
