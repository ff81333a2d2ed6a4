-- Room to work in.
-- Assumes nothing.
use mathlib.Core.Path.{◌≡◌, refl}
use mathlib.Core.List.{List}
use Prim.Native.Nat.{ℕ, ◌*◌, ◌/◌, ◌^◌, ◌<◌, ◌≤◌}
use lib.ListN.{length, replicate, length-replicate}
use Rattle.layout.specs.declared.Layout.{Layout}
use Rattle.layout.specs.Layout.{checks, digits, layers}
use Rattle.codeword.specs.Inner.{Scannable}
use Rattle.blocks.specs.Inner.{block_limit, room_limit, Block}
use Rattle.syndrome.specs.Inner.{Room}
use Rattle.blocks.proofs.Whole.{width_pos, count_whole, block_of}

-- the arrays
pub room : {X : Type 0} (l : Layout) (e : ℕ) (v₁ v₂ v₃ : X) → digits l ^ e ≤ block_limit → checks l * digits l ^ e ≤ room_limit →
    Room (digits l ^ e) (checks l) (replicate room_limit v₁) (replicate block_limit v₂) (replicate block_limit v₃)
room l e v₁ v₂ v₃ h k = record {
  sums_long = rw (length-replicate room_limit v₁) k;
  cur_long = rw (length-replicate block_limit v₂) h;
  row_long = rw (length-replicate block_limit v₃) h;
}

pub room_here : {X : Type 0} (l : Layout) (e w r : ℕ) (sums₀ cur₀ row₀ sums cur row : List X) → w ≡ digits l ^ e → r ≡ checks l → Room (digits l ^ e) (checks l) sums₀ cur₀ row₀ →
    length sums ≡ length sums₀ → length cur ≡ length cur₀ → length row ≡ length row₀ → Room w r sums cur row
room_here l e w r sums₀ cur₀ row₀ sums cur row ew er g a b d = record {
  sums_long = rw (a, ew, er) g.sums_long;
  cur_long = rw (b, ew) g.cur_long;
  row_long = rw (d, ew) g.row_long;
}

pub whole_word : (l : Layout) (total : ℕ) (c : List ℕ) → Scannable l total c → Scannable l (layers l) c
whole_word l total c p = record { adm = p.adm; total_is = refl; long = p.long }

-- ---- the blocks
module _ (l : Layout) (e w total : ℕ) (c : List ℕ) (h : e ≤ l.racks) (p : Scannable l total c) (ew : w ≡ digits l ^ e) where
  pub width_some : 0 < w
  width_some = width_pos l e w total p.adm h ew p.total_is

  pub block_at : (q : ℕ) → q < total / w → Block l w (q * w)
  block_at = block_of l e w total p.adm h ew p.total_is

  pub count_all : total / w * w ≡ layers l
  count_all = count_whole l e w total p.adm h ew p.total_is
