-- The sums over the groups: the runs of a layout, and what adding their digits one after another comes to.
-- Assumes nothing.
use mathlib.Core.Path.{◌≡◌, sym, ap, ap₂, ◌∙◌, subst}
use mathlib.Core.List.{List}
use Prim.Native.Nat.{ℕ, suc, ◌+◌, ◌-◌, ◌*◌, ◌/◌, ◌%◌, ◌^◌, min, ◌<◌, ◌≤◌}
use native.Mathlib.Nat.{mul_assoc, mul_comm, mul-div_cancel, mul-le-mul, div-lt_iff_lt-mul, mod-lt, div-add-mod', pow-suc, le_of_lt}
use native.Mathlib.Omega.{arith}
use lib.ListN.{get_or, drop}
use lib.Seq.{get_or-take, get_or-drop}
use lib.Pow.{pow-add}
use Rattle.lists.proofs.Numbers.{cell_in}
use Rattle.algebra.specs.Sum.{sum}
use Rattle.algebra.specs.Layers.{layer_of}
use Rattle.algebra.proofs.Layers.{power_pos}
use Rattle.algebra.proofs.Sum.{sum_congr}
use Rattle.algebra.proofs.Cabinet.{group_sum_lem}
use Rattle.algebra.specs.Shape.{Field}
use Rattle.algebra.specs.Plain.{Working}
use Rattle.layout.specs.declared.Layout.{Layout}
use Rattle.layout.specs.Layout.{digits, layers, groups, layer_limit, Cabinet, Admissible}
use Rattle.layout.proofs.Facts.{bounds, power_in}
use Rattle.layout.proofs.Numbers.{groups_are}
use Rattle.layout.proofs.Parts.{power_known}
use Rattle.codeword.specs.Codeword.{shape_of}
use Rattle.codeword.proofs.Usable.{usable}
use Rattle.share.specs.Inner.{CountsOf, RunsOf, InTrays, cut, layered, TraysAdded, sum_at, Summing, Summed}

pub groups_pos : (l : Layout) → Cabinet l → 0 < groups l
groups_pos l a = rw (groups_are l a) (power_pos (digits l) (l.racks - 1) (bounds l a).digits_low)

-- a symbol of the tray at a place
pub cut_at : (l : Layout) (symbols : List ℕ) (from j : ℕ) → j < layers l → get_or (cut l symbols from) j 0 ≡ get_or symbols (from + j) 0
unfolding cut
cut_at l symbols from j h = get_or-take (layers l) (drop from symbols) j 0 h ∙ get_or-drop from symbols j 0

-- the length of a run is not zero
pub run_some : (l : Layout) (h s run : ℕ) → Cabinet l → h < l.racks → s ≡ digits l → run ≡ min (s ^ h) (layer_limit + 1) → 0 < run
run_some l h s run a host es er = rw (power_known l h s run es er a host) (power_pos (digits l) h (bounds l a).digits_low)

pub runs_are : (l : Layout) (h s total many run : ℕ) → Cabinet l → h < l.racks → CountsOf l s total many → run ≡ min (s ^ h) (layer_limit + 1) → RunsOf l h s run (many / run) total
runs_are l h s total many run a host n er = record {
  digits_are = n.digits_are;
  run_is = run_is;
  count_is = ap₂ ◌/◌ (n.groups_are ∙ groups_are l a ∙ whole) run_is ∙ mul-div_cancel (digits l ^ (l.racks - 1 - h)) (power_pos (digits l) h (bounds l a).digits_low);
  layers_are = n.layers_are;
}
  where
    run_is : run ≡ digits l ^ h
    run_is = power_known l h s run n.digits_are er a host

    -- L/s is a power of s, of which the run is a factor
    whole : digits l ^ (l.racks - 1) ≡ digits l ^ (l.racks - 1 - h) * digits l ^ h
    whole = (let e : l.racks - 1 ≡ l.racks - 1 - h + h = omega arith in ap (λ n. digits l ^ n) e) ∙ pow-add (digits l) (l.racks - 1 - h) h

module _ (l : Layout) (h s run count far : ℕ) (a : Cabinet l) (host : h < l.racks) (r : RunsOf l h s run count far) where
  run_pos : 0 < run
  run_pos = rw r.run_is (power_pos (digits l) h (bounds l a).digits_low)

  -- the runs are all groups
  count_whole : count * run ≡ groups l
  count_whole =
      ap₂ ◌*◌ r.count_is r.run_is
      ∙ sym (pow-add (digits l) (l.racks - 1 - h) h)
      ∙ (let e : l.racks - 1 - h + h ≡ l.racks - 1 = omega arith in ap (λ n. digits l ^ n) e)
      ∙ sym (groups_are l a)

  layers_whole : layers l ≡ count * s * run
  layers_whole =
      (let e : l.racks ≡ suc (l.racks - 1) = omega arith in ap (λ n. digits l ^ n) e)
      ∙ pow-suc (digits l) (l.racks - 1)
      ∙ ap₂ ◌*◌ (sym (groups_are l a) ∙ sym count_whole) (sym r.digits_are)
      ∙ mul_assoc count run s ∙ ap (λ n. count * n) (mul_comm run s) ∙ sym (mul_assoc count s run)

  far_is : far ≡ count * s * run
  far_is = r.layers_are ∙ layers_whole

  pub runs_of : {A : Type 0} (f : Field A) (symbols : List ℕ) (at m : ℕ) (sums : List ℕ) → Summing f l h symbols at m sums → InTrays f s run count symbols at far m sums
  runs_of f symbols at m sums t = record {
    some = run_pos;
    some_runs = rw r.count_is (power_pos (digits l) (l.racks - 1 - h) (bounds l a).digits_low);
    some_digits = omega (arith, r.digits_are, (bounds l a).digits_low);
    some_trays = t.some_trays;
    whole = far_is;
    long = rw r.layers_are t.long;
    room = rw count_whole t.room;
    given = t.given;
    held = λ n k. t.held n (rw count_whole at k);
    few = let b = bounds l a in let d : s ≤ 60 = omega (arith, r.digits_are, b.digits_high, b.racks_high) in omega (arith, mul-le-mul t.at_once d);
  }

  -- number i of run q is group q·s^h + i, and its layers are those added
  pub summed : {A : Type 0} {f : Field A} (W : Working f) → Admissible f.order l → (symbols : List ℕ) (at m : ℕ) (was is : List ℕ) → 0 < m →
      TraysAdded f s run count symbols at far m was is → Summed f l h symbols at m was is
  summed {A} {f} W adm symbols at m was is pos d = record { same = d.same; done = done; small = low; rest = λ p k. d.rest p (rw count_whole k) }
    where
      low : (p : ℕ) → p < groups l → get_or is p 0 < f.coding.size
      low p k =
          subst (λ n. get_or is n 0 < f.coding.size) (div-add-mod' p run)
          (d.small pos (p / run) (p % run) ((div-lt_iff_lt-mul run_pos).1 (rw count_whole k)) (mod-lt p run_pos))

      done : (p : ℕ) → p < groups l →
          f.coding.elem (get_or is p 0) ≡ f.ops.add (f.coding.elem (get_or was p 0)) (sum f.ops m (λ g. sum_at f l h (cut l symbols (at + g * layers l)) p))
      done p k =
          subst (λ n. f.coding.elem (get_or is n 0) ≡ f.ops.add (f.coding.elem (get_or was n 0))
          (sum f.ops m (λ g. sum f.ops s (layered f s run symbols (at + g * far) (p / run) (p % run))))) (div-add-mod' p run)
          (d.done (p / run) (p % run) within (mod-lt p run_pos))
          ∙ ap (f.ops.add (f.coding.elem (get_or was p 0))) (sum_congr f.ops m _ _ (λ g n. tray (at + g * far) ∙ ap (λ z. sum_at f l h (cut l symbols (at + g * z)) p) r.layers_are))
        where
          within : p / run < count
          within = (div-lt_iff_lt-mul run_pos).1 (rw count_whole k)

          -- a layer of the tray at a place
          at_cut : (from b : ℕ) → b < s → f.coding.elem (get_or symbols (from + ((p / run * s + b) * run + p % run)) 0)
              ≡ f.coding.elem (get_or (cut l symbols from) ((p / run * s + b) * run + p % run) 0)
          at_cut from b n =
              ap f.coding.elem (sym (cut_at l symbols from _ (rw layers_whole (cell_in (count * s) run (p / run * s + b) (p % run) (cell_in count s (p / run) b within n) (mod-lt p run_pos)))))

          tray : (from : ℕ) → sum f.ops s (layered f s run symbols from (p / run) (p % run)) ≡ sum_at f l h (cut l symbols from) p
          tray from = unfold layered layer_of in
              sum_congr f.ops s _ _ (at_cut from)
              ∙ ap₂ (λ n w. sum f.ops n (λ b. f.coding.elem (get_or (cut l symbols from) ((p / w * n + b) * w + p % w) 0))) r.digits_are r.run_is
              ∙ sym (group_sum_lem (shape_of f l) (usable W l adm).fits h host p (rw (groups_are l adm.cabinet) at k) (λ j. f.coding.elem (get_or (cut l symbols from) j 0)))
