-- The first block that does not fit, and its first layer, over any field.
-- Assumes nothing.
use mathlib.Core.Path.{◌≡◌, refl, sym, ap, ◌∙◌, subst}
use mathlib.Core.Bool.{Bool, true}
use mathlib.Core.List.{List}
use Prim.Native.Nat.{ℕ, suc, ◌+◌, ◌-◌, ◌*◌, ◌/◌, ◌^◌, ◌<◌, ◌≤◌}
use native.Mathlib.Nat.{add-mul, mul_assoc, zero-mul, zero-add, pow-zero, pow-succ', pow-le-pow_right, mul-le-mul_left, le_trans}
use native.Mathlib.Decide.{dec_lt}
use native.Mathlib.Omega.{arith}
use lib.ListN.{length}
use Rattle.kernel.proofs.Rows.{row_end, row_before}
use Rattle.algebra.specs.Shape.{Field}
use Rattle.layout.specs.declared.Layout.{Layout}
use Rattle.layout.specs.Layout.{checks, digits, layers, Cabinet}
use Rattle.blocks.specs.Inner.{block_limit, room_limit}
use Rattle.blocks.proofs.Room.{room_of, row_of, room_long, row_long}
use Rattle.blocks.proofs.Digits.{run_pos}
use Rattle.blocks.proofs.Whole.{width_pos, count_whole}
use Rattle.solving.specs.Inner.{Workspace}
use Rattle.restore.specs.Inner.{LayerFits, Says, Erasing, BlockFits}
use Rattle.restore.proofs.Says.{says_true}
use Rattle.test_kept.specs.Inner.{Wide, Stretch, SomeUnfit, FirstUnfit, BadBlock, FirstLayer}

-- ---- room for a block
module _ (l : Layout) (e w first : ℕ) (b : Wide l e w first) where
  pub row_room : w ≤ length row_of
  row_room = rw row_long b.narrow

  pub wide_room : Workspace l w room_of room_of room_of room_of row_of
  wide_room = record { few = b.rows; sums_long = fits; found_long = fits; points_long = fits; coefs_long = fits; row_long = row_room }
    where
      fits : checks l * w ≤ length room_of
      fits = rw room_long b.rows

-- ---- one of some blocks
module _ (l : Layout) (e w from count : ℕ) (s : Stretch l e w from count) (q : ℕ) (h : q < count) where
  block_inside : from + q * w + w ≤ layers l
  block_inside = let b = row_before q count w h in let i = s.inside in omega arith

  pub wide_at : Wide l e w (from + q * w)
  wide_at = record {
    block = record {
      adm = s.adm;
      power = e;
      power_in = s.digits_in;
      width = s.width_is;
      number = s.number + q;
      first_is = ap (λ (y : ℕ). y + q * w) s.from_is ∙ sym (add-mul s.number q w);
      inside = block_inside;
    };
    digits_in = s.digits_in;
    width_is = s.width_is;
    narrow = s.narrow;
    rows = s.rows;
  }

module _ {A : Type 0} (f : Field A) (l : Layout) (w from : ℕ) (es c : List ℕ) where
  -- the first n layers of these fit
  abbrev pub FitTo : ℕ → Type 0
  FitTo n = (j : ℕ) → j < n → LayerFits f l es c (from + j)

  fit_next : (q : ℕ) → FitTo (q * w) → BlockFits f l w (from + q * w) es c → FitTo ((q + 1) * w)
  fit_next q g b j h = go (dec_lt j (q * w))
    where
      go : Dec (j < q * w) → LayerFits f l es c (from + j)
      go (yes k) = g j k
      go (no k) =
          let t = row_end q w in
          let e : from + q * w + (j - q * w) ≡ from + j = omega arith in
          subst (LayerFits f l es c) e (b (j - q * w) (omega arith))

  pub fit_more : (q : ℕ) (b : Bool) → FitTo (q * w) → Says b (BlockFits f l w (from + q * w) es c) → b ≡ true → FitTo ((q + 1) * w)
  fit_more q b g says e = fit_next q g (says_true b e says)

  module _ (count q : ℕ) (g : FitTo (q * w)) (h : q < count) where
    -- the last one where all before it fit
    pub last_unfit : SomeUnfit f l w from count es c → count ≤ q + 1 → FirstUnfit f l w from count es c (from + q * w)
    last_unfit some k = record {
      q = q;
      q_in = h;
      first_is = refl;
      earlier = g;
      unfit = λ b. some (let e : q + 1 ≡ count = omega arith in subst (λ n. FitTo (n * w)) e (fit_next q g b));
    }

-- ---- all blocks of a layout
pub width_some : (l : Layout) (e w total : ℕ) (es c : List ℕ) → e ≤ l.racks → Erasing l total es c → w ≡ digits l ^ e → 0 < w
width_some l e w total es c h p ew = width_pos l e w total p.adm h ew p.total_is

module _ (l : Layout) (e w total : ℕ) (es c : List ℕ) (h : e ≤ l.racks) (p : Erasing l total es c) (ew : w ≡ digits l ^ e) where
  whole : total / w * w ≡ layers l
  whole = count_whole l e w total p.adm h ew p.total_is

  pub all_blocks : digits l ^ e ≤ block_limit → checks l * digits l ^ e ≤ room_limit → Stretch l e w 0 (total / w)
  all_blocks a b = record {
    adm = p.adm;
    digits_in = h;
    width_is = ew;
    narrow = rw ew a;
    rows = rw ew b;
    some = go (dec_lt 0 (total / w));
    number = 0;
    from_is = sym (zero-mul w);
    inside = let q = whole in omega arith;
  }
    where
      go : Dec (0 < total / w) → 0 < total / w
      go (yes q) = q
      go (no q) =
          let z : total / w ≡ 0 = omega arith in
          let y : layers l ≡ 0 = sym whole ∙ ap (λ (n : ℕ). n * w) z ∙ zero-mul w in
          let r = run_pos l p.adm l.racks in
          absurd (omega arith)

  module _ {A : Type 0} (f : Field A) where
    pub all_unfit : ¬ ((j : ℕ) → j < layers l → LayerFits f l es c j) → SomeUnfit f l w 0 (total / w) es c
    all_unfit n g = n (λ j b. subst (LayerFits f l es c) (zero-add j) (g j (let q = whole in omega arith)))

    pub widest : digits l ^ e ≤ block_limit → checks l * digits l ^ e ≤ room_limit → (r : ℕ) → FirstUnfit f l w 0 (total / w) es c r →
        BadBlock f l e es c r
    widest a b r u = subst (λ y. BadBlock f l e es c y) (sym u.first_is) (record {
      wide = subst (λ y. Wide l e y (0 + u.q * w)) ew (wide_at l e w 0 (total / w) (all_blocks a b) u.q u.q_in);
      earlier = λ j h. subst (LayerFits f l es c) (zero-add j) (u.earlier j (omega arith));
      unfit = subst (λ y. ¬ BlockFits f l y (0 + u.q * w) es c) ew (subst (λ y. ¬ BlockFits f l w y es c) u.first_is u.unfit);
    })

-- ---- the parts of a block
module _ {A : Type 0} (f : Field A) (l : Layout) (e w s first : ℕ) (es c : List ℕ) (b : BadBlock f l (e + 1) es c first)
    (ew : w ≡ digits l ^ e) (is : s ≡ digits l) where
  parts : s * w ≡ digits l ^ (e + 1)
  parts = ap (λ (y : ℕ). y * w) is ∙ ap (λ (y : ℕ). digits l * y) ew ∙ sym (pow-succ' (digits l) e) ∙
      (let q : suc e ≡ e + 1 = omega arith in ap (λ (y : ℕ). digits l ^ y) q)

  fewer : w ≤ digits l ^ (e + 1)
  fewer = rw ew (pow-le-pow_right (digits_pos b.wide.block.adm) (omega arith))
    where
      digits_pos : Cabinet l → 0 < digits l
      digits_pos a = omega arith

  pub parts_of : Stretch l e w first s
  parts_of =
      let v = b.wide in
      record {
        adm = v.block.adm;
        digits_in = let q = v.digits_in in omega arith;
        width_is = ew;
        narrow = let q = v.narrow in let k = fewer in omega arith;
        rows = le_trans (mul-le-mul_left (checks l) fewer) v.rows;
        some = rw is (let a = v.block.adm in omega arith);
        number = v.block.number * s;
        from_is = v.block.first_is ∙ ap (λ (y : ℕ). v.block.number * y) (sym parts) ∙ sym (mul_assoc v.block.number s w);
        inside = rw parts v.block.inside;
      }

  pub part_unfit : SomeUnfit f l w first s es c
  part_unfit g = b.unfit (λ j h. g j (rw parts h))

  pub narrower : (r : ℕ) → FirstUnfit f l w first s es c r → BadBlock f l e es c r
  narrower r u = subst (λ y. BadBlock f l e es c y) (sym u.first_is) (record {
    wide = subst (λ y. Wide l e y (first + u.q * w)) ew (wide_at l e w first s parts_of u.q u.q_in);
    earlier = λ j h. go j h (dec_lt j first);
    unfit = subst (λ y. ¬ BlockFits f l y (first + u.q * w) es c) ew (subst (λ y. ¬ BlockFits f l w y es c) u.first_is u.unfit);
  })
    where
      go : (j : ℕ) → j < first + u.q * w → Dec (j < first) → LayerFits f l es c j
      go j h (yes k) = b.earlier j k
      go j h (no k) = let q : first + (j - first) ≡ j = omega arith in subst (LayerFits f l es c) q (u.earlier (j - first) (omega arith))

-- ---- one layer
module _ {A : Type 0} (f : Field A) (l : Layout) (es c : List ℕ) where
  pub first_layer : (e first : ℕ) → BadBlock f l e es c first → e ≤ 0 → FirstLayer f l es c first
  first_layer e first b h = record {
    layer_in = let i = b.wide.block.inside in omega (arith, one);
    unfit = λ g. b.unfit (λ j k. let z : first ≡ first + j = omega (arith, one) in subst (LayerFits f l es c) z g);
    earlier = b.earlier;
  }
    where
      one : digits l ^ e ≡ 1
      one = (let z : e ≡ 0 = omega arith in ap (λ (y : ℕ). digits l ^ y) z) ∙ pow-zero (digits l)
