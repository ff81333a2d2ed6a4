-- With at most one share of a codeword's wrong, the tray is exact and the right rack is named.
-- Assumes nothing.
use mathlib.Core.Path.{◌≡◌, sym, ◌∙◌, ap, ap₂}
use mathlib.Core.List.{List}
use Prim.Native.Nat.{ℕ, ◌+◌, ◌*◌, ◌/◌, ◌%◌, ◌<◌}
use native.Mathlib.Nat.{mod-lt, div-add-mod'}
use native.Mathlib.Decide.{ℕ_discrete}
use native.Mathlib.Omega.{arith}
use lib.Dec.{eqb}
use lib.ListN.{length, get_or}
use lib.Seq.{ext_get_or}
use Rattle.lists.proofs.Numbers.{cell_in}
use Rattle.algebra.specs.Field.{Ops, Laws}
use Rattle.algebra.specs.Erasure.{choose}
use Rattle.algebra.specs.Shape.{Field}
use Rattle.algebra.specs.Plain.{Working}
use Rattle.algebra.specs.Points.{rack_sum}
use Rattle.algebra.proofs.Ring.{ring}
use Rattle.algebra.proofs.Sum.{sum_congr}
use Rattle.algebra.proofs.Cabinet.{choose_same, choose_other, codeword_solution}
use Rattle.layout.specs.declared.Layout.{Layout}
use Rattle.layout.specs.Layout.{trays, checks, layers, groups, parity_racks, AdmissibleWith}
use Rattle.layout.proofs.Numbers.{groups_are, enough}
use Rattle.codeword.specs.Codeword.{shape_of, symbol_at, Usable}
use Rattle.codeword.proofs.Usable.{usable}
use Rattle.codeword.proofs.Buffers.{to_word, layers_pos}
use Rattle.rule.specs.Rule.{rack_part, tray_part, group_at, share_symbol, shared_symbol, sound_sum}
use Rattle.rule.proofs.Racks.{tray_at, tray_long, no_weight, sum_out, rack_at, share_word}
use Rattle.correcting.specs.Correcting.{ChecksHold, Names, Settled, OneWrong}
use Rattle.correcting.proofs.Choices.{host_in, Alike, hold_one, hold_sums}
use Rattle.correcting.proofs.Settled.{index}

less : {A : Type 0} (o : Ops A) (L : Laws o) (a b : A) → o.add (o.add a b) (o.neg b) ≡ a
less o L a b = simp (ring, L)

module _ {A : Type 0} {f : Field A} (W : Working f) (l : Layout) (adm : AdmissibleWith f.order 1 l) (x : ℕ) (helpers shares host c : List ℕ) (k : ℕ)
    (g : OneWrong f l x helpers shares host c k) where
  ok : Usable f l
  ok = usable W l adm.admissible

  abbrev h : ℕ
  h = x / l.size

  -- the shares of the codeword
  unfoldable pub true_shares : ℕ → ℕ → A
  true_shares p i = share_symbol f l 0 (x / l.size) (rack_part l c (get_or helpers i 0)) p

  -- the checks hold for them
  pub true_hold : ChecksHold f l x helpers true_shares
  unfolding true_shares
  true_hold = record {
    sums = λ p i j. rack_sum (shape_of f l) (λ y. symbol_at f l c y j) 0 i;
    solution = λ p q.
        let sol = codeword_solution (shape_of f l) ok.fits h (host_in W l adm x helpers g.setting.help) p (rw (groups_are l adm.admissible.cabinet) at q) 0
        (λ k. get_or helpers k 0) l.helpers (parity_racks l) (checks l)
        (λ w hw. enough l adm.admissible.cabinet w 0 hw (omega (arith, mod-lt l.dimension ok.fits.some_places))) (symbol_at f l c) (to_word f l c g.setting.codeword) in
        record { given = λ i hi. sol.given i hi ∙ sym (share_word f l 0 h c (get_or helpers i 0) p); checks = sol.checks };
  }

  pub true_alike : Alike W l adm x helpers g.setting.help k (shared_symbol f l shares) true_shares
  unfolding true_shares
  true_alike = record { at = λ p i hp hi e. g.right i p hi hp e }

  -- the host's rack sum less the rack's other symbols is the codeword's symbol
  symbol : (j : ℕ) → j < layers l →
      f.ops.add (rack_sum (shape_of f l) (λ y. symbol_at f l c y j) 0 h) (f.ops.neg (sound_sum f l x host j)) ≡ symbol_at f l c x j
  unfolding rack_sum sound_sum
  symbol j hj =
      let o = f.ops in
      let L = ok.field.laws in
      let xg = mod-lt x ok.fits.some_places in
      ap₂ (λ y z. o.add y (o.neg z))
      (sum_congr o l.size _ (λ y. symbol_at f l c (h * l.size + y) j) (λ y hy. no_weight o L _ _) ∙ sum_out o L l.size (x % l.size) (λ y. symbol_at f l c (h * l.size + y) j) xg)
      (sum_congr o l.size _ (λ y. choose (eqb y (x % l.size)) o.zero (symbol_at f l c (h * l.size + y) j)) (λ y hy. pick y hy (ℕ_discrete y (x % l.size))))
      ∙ less o L _ _
      ∙ ap (λ y. symbol_at f l c y j) (div-add-mod' x l.size)
    where
      pick : (y : ℕ) → y < l.size → Dec (y ≡ x % l.size) →
          choose (eqb y (x % l.size)) f.ops.zero (symbol_at f l host y j) ≡ choose (eqb y (x % l.size)) f.ops.zero (symbol_at f l c (h * l.size + y) j)
      pick y hy (yes e) = choose_same _ _ _ _ e ∙ sym (choose_same _ _ _ _ e)
      pick y hy (no e) = choose_other _ _ _ _ e ∙ g.setting.sound j hj y hy e ∙ rack_at f l c h y j hy hj ∙ sym (choose_other _ _ _ _ e)

  module _ (rack : ℕ) (new : List ℕ) (s : Settled f l x helpers shares host rack new) where
    same : (p i : ℕ) → p < groups l → i < l.helpers → s.meant p i ≡ true_shares p i
    same =
        let i = index W l adm x helpers g.setting.help shares s.meant rack s.named in
        hold_one W l adm x helpers g.setting.help (shared_symbol f l shares) s.meant true_shares i.at k i.inside g.helper_in i.alike true_alike s.hold true_hold

    -- the rack named is the one whose share is not the codeword's
    pub names_true : Names f l x helpers shares true_shares rack
    names_true = record {
      right = λ i p hi hp e. s.named.right i p hi hp e ∙ same p i hp hi;
      wrong = λ d.
          let w = s.named.wrong d in
          record {
            helper = w.helper;
            group = w.group;
            helper_in = w.helper_in;
            group_in = w.group_in;
            is_rack = w.is_rack;
            differs = λ e. w.differs (e ∙ sym (same w.group w.helper w.group_in w.helper_in));
          };
    }

    -- and the tray is the codeword's
    pub tray_true : length new ≡ layers l → new ≡ tray_part l c x
    unfolding true_hold symbol_at
    tray_true long =
        ext_get_or 0 new (tray_part l c x) (long ∙ sym (tray_long l c (trays l) x (layers_pos f l ok) g.setting.codeword.long g.setting.help.lost_in))
        (λ j hj.
        let k : j < layers l = rw long at hj in
        s.tray j k
        ∙ ap (λ y. f.coding.val (f.ops.add y (f.ops.neg (sound_sum f l x host j)))) (hold_sums W l adm x helpers g.setting.help s.meant true_shares s.hold true_hold same j k)
        ∙ value j k
        ∙ sym (tray_at l c x j k))
      where
        value : (j : ℕ) → j < layers l →
            f.coding.val (f.ops.add (true_hold.sums (group_at l x j) (x / l.size) j) (f.ops.neg (sound_sum f l x host j))) ≡ get_or c (x * layers l + j) 0
        value j k =
            ap f.coding.val (symbol j k)
            ∙ ok.field.coded.val_elem _ (g.setting.codeword.symbols.at (x * layers l + j) (rw g.setting.codeword.long (cell_in (trays l) (layers l) x j g.setting.help.lost_in k)))
