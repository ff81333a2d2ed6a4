-- The blocks of a piece, and what a block is told.
-- Assumes nothing.
use mathlib.Core.Path.{◌≡◌, sym}
use mathlib.Core.List.{List}
use Prim.Native.Nat.{ℕ, ◌+◌, ◌*◌, ◌/◌, ◌%◌, ◌<◌, ◌≤◌, max}
use native.Mathlib.Nat.{div-le_self, mul-le-mul_left, mul-le-mul_right, le_refl, le_trans, le-mul_of_pos_right}
use native.Mathlib.Omega.{arith}
use mir.Val.{Fits}
use mir.Syntax.{w32}
use lib.ListN.{length}
use Rattle.algebra.specs.Shape.{Field}
use Rattle.layout.specs.declared.Layout.{Layout}
use Rattle.layout.specs.Layout.{digits, layers, groups, parity_racks, tray_limit, Cabinet}
use Rattle.layout.proofs.Facts.{bounds, rack_in}
use Rattle.blocks.specs.Inner.{block_limit, room_limit, Block, Allowed}
use Rattle.blocks.proofs.Room.{room_of, row_of, room_long, row_long}
use Rattle.rule.specs.Lost.{first_lost}
use Rattle.sums.specs.Inner.{Groups, Summing}
use Rattle.sums.proofs.Steps.{unknowns_high, sums_high}
use Rattle.group.specs.Inner.{Repairing, Workspace}
use Rattle.pieces.specs.Inner.{Rows, Fitting, Spacious, Few, Piecing, Rooms}

-- ---- the rows of a block
module _ (l : Layout) (adm : Cabinet l) (e s : ℕ) (few : e + l.dimension % l.size ≤ l.size) (es : s ≡ digits l) where
  high : e * s ≤ tray_limit
  high = rw es (sums_high l adm e few)

  pub rows_fit : Fits w32 (e * s)
  rows_fit = record { fits = omega (arith, high) }

  pub rows_larger : (r m : ℕ) → r ≡ parity_racks l → m ≡ max r (e * s) → Rows l e m
  rows_larger r m er em = record {
    unknowns = omega arith;
    sums = let h : e * s ≤ m = omega arith in rw (sym es) h;
    few = omega (arith, high, unknowns_high l adm);
  }

pub fitting_of : (l : Layout) (e rows p left w : ℕ) → Rows l e rows → Allowed p left rows w → Fitting l e w room_limit
fitting_of l e rows p left w r a = record {
  small = a.small;
  unknowns = le_trans (mul-le-mul_right w r.unknowns) a.fits;
  sums = le_trans (mul-le-mul_right w r.sums) a.fits;
}

-- ---- the groups of a block
pub groups_under : (l : Layout) → groups l ≤ layers l
groups_under l = div-le_self (layers l) (digits l)

pub groups_of : (l : Layout) (p left rows w : ℕ) → p + left ≤ groups l → Block l w p → Allowed p left rows w → Groups l w p
groups_of l p left rows w h b a = record { block = b; inside = let t = a.within in omega arith }

-- ---- what a block is told
module _ {n : ℕ} (N : ℕ) (l : Layout) (lost helpers shares host : List ℕ) (w first : ℕ) (spare sums sides found points coefs row cur : List ℕ)
    (p : Piecing N l lost helpers shares host first w spare) (g : Groups l w first) (fit : Fitting l (length lost) w n) (r : Rooms n sums sides found points coefs row cur) where
  -- the host rack
  h : ℕ
  h = first_lost l lost / l.size

  few : length lost ≤ l.size
  few = omega (arith, p.losses.few)

  host_in : h < l.racks
  unfolding h
  host_in = rack_in l p.adm.admissible.cabinet (first_lost l lost) p.losses.help.lost_in

  -- e rows are fewer than e·s
  lost_rows : length lost * w ≤ n
  lost_rows = le_trans (mul-le-mul_right w (le-mul_of_pos_right (length lost) (bounds l p.adm.admissible.cabinet).digits_low)) fit.sums

  pub summing_of : Summing l (first_lost l lost / l.size) w first helpers shares (length lost) sums sides found points coefs row cur
  unfolding h
  summing_of =
      let u = fit.unknowns in
      record {
        received = record {
          chosen = record {
            adm = p.adm.admissible.cabinet;
            plain = p.adm.errors_are;
            host_in = host_in;
            many = p.losses.help.many;
            inside = p.losses.help.inside;
            rising = p.losses.help.rising;
            other = p.losses.help.other;
          };
          few = p.losses.few;
          shares_long = p.shares_long;
        };
        block = g;
        sums_long = le_trans fit.sums r.sums_long;
        room = record {
          few = le_trans u r.most;
          sides_long = le_trans u r.sides_long;
          found_long = le_trans u r.found_long;
          points_long = le_trans u r.points_long;
          coefs_long = le_trans u r.coefs_long;
          row_long = le_trans fit.small r.row_long;
        };
        cur_long = le_trans fit.small r.cur_long;
      }

  pub repairing_of : {A : Type 0} (f : Field A) (sums' : List ℕ) → length sums' ≡ length sums → Repairing f l (first_lost l lost / l.size) lost host w first sums'
  unfolding h
  repairing_of f sums' e = record {
    losing = record {
      adm = p.adm.admissible.cabinet;
      host_in = host_in;
      some = p.losses.some;
      few = few;
      one_rack_lem = p.losses.one_rack_lem;
      host_long = p.host_long;
    };
    block = g;
    sums_long = rw e (le_trans fit.sums r.sums_long);
  }

  pub space_of : (sides' found' points' coefs' row' cur' : List ℕ) → length sides' ≡ length sides → length found' ≡ length found → length points' ≡ length points →
      length coefs' ≡ length coefs → length row' ≡ length row → length cur' ≡ length cur → Workspace (length lost) w sides' found' points' coefs' row' cur'
  space_of sides' found' points' coefs' row' cur' e1 e2 e3 e4 e5 e6 =
      let b = bounds l p.adm.admissible.cabinet in
      let k : length lost ≤ tray_limit = omega (arith, few) in
      let u = lost_rows in
      record {
        few = omega arith;
        rests_long = rw e1 (le_trans u r.sides_long);
        found_long = rw e2 (le_trans u r.found_long);
        places_long = omega (arith, e3, r.points_long, r.enough);
        coefs_long = omega (arith, e4, r.coefs_long, r.enough);
        row_long = rw e5 (le_trans fit.small r.row_long);
        cur_long = rw e6 (le_trans fit.small r.cur_long);
      }

pub rooms_next : (sums sides found points coefs row cur sums' sides' found' points' coefs' row' cur' : List ℕ) →
    Rooms (length sums) sums sides found points coefs row cur → length sums' ≡ length sums →
    length sides' ≡ length sides → length found' ≡ length found → length points' ≡ length points → length coefs' ≡ length coefs → length row' ≡ length row → length cur' ≡ length cur →
    Rooms (length sums') sums' sides' found' points' coefs' row' cur'
rooms_next sums sides found points coefs row cur sums' sides' found' points' coefs' row' cur' r e1 e2 e3 e4 e5 e6 e7 = record {
  enough = rw e1 r.enough;
  most = rw e1 r.most;
  sums_long = omega arith;
  sides_long = rw (e1, e2) r.sides_long;
  found_long = rw (e1, e3) r.found_long;
  points_long = rw (e1, e4) r.points_long;
  coefs_long = rw (e1, e5) r.coefs_long;
  row_long = rw e6 r.row_long;
  cur_long = rw e7 r.cur_long;
}

-- a block of a piece fits its rooms
pub fitting_in : (l : Layout) (e rows p left w count n n' : ℕ) → Rows l e rows → Allowed p left rows w → w ≤ count → Spacious l e count n → n' ≡ n → Fitting l e w n'
fitting_in l e rows p left w count n n' r a h s same = rw same (s.fits w h (fitting_of l e rows p left w r a))

-- the arrays
pub rooms : Rooms (length room_of) room_of room_of room_of room_of room_of row_of row_of
rooms = record {
  enough = rw room_long (omega arith);
  most = rw room_long (omega arith);
  sums_long = le_refl _;
  sides_long = le_refl _;
  found_long = le_refl _;
  points_long = le_refl _;
  coefs_long = le_refl _;
  row_long = row;
  cur_long = row;
}
  where
    row : block_limit ≤ length row_of
    row = rw row_long (omega arith)

pub spacious : (l : Layout) (e count : ℕ) → Spacious l e count (length room_of)
spacious l e count = record { fits = λ w h f. rw room_long f }

pub small_rooms : Rooms (length row_of) row_of row_of row_of row_of row_of row_of row_of
small_rooms = record {
  enough = row;
  most = rw row_long (omega arith);
  sums_long = le_refl _;
  sides_long = le_refl _;
  found_long = le_refl _;
  points_long = le_refl _;
  coefs_long = le_refl _;
  row_long = row;
  cur_long = row;
}
  where
    row : block_limit ≤ length row_of
    row = rw row_long (omega arith)

pub few_spacious : (l : Layout) (e count : ℕ) → Few l e count → Spacious l e count (length row_of)
few_spacious l e count s = record {
  fits = λ w h f. record {
    small = f.small;
    unknowns = rw row_long (le_trans (mul-le-mul_left (parity_racks l) h) s.unknowns);
    sums = rw row_long (le_trans (mul-le-mul_left (e * digits l) h) s.sums);
  };
}

pub few_of : (l : Layout) (e rows count : ℕ) → Rows l e rows → rows * count ≤ block_limit → Few l e count
few_of l e rows count r h = record { unknowns = le_trans (mul-le-mul_right count r.unknowns) h; sums = le_trans (mul-le-mul_right count r.sums) h }

pub start_fits : (N : ℕ) (l : Layout) (lost helpers shares host : List ℕ) (first count k : ℕ) (spare : List ℕ) →
    Piecing N l lost helpers shares host first count spare → k < count → Fits w32 (first + k)
start_fits N l lost helpers shares host first count k spare p h = let b = bounds l p.adm.admissible.cabinet in record { fits = omega (arith, p.within) }
