-- Shares fed tray by tray, by the calls themselves. Over any field; among bytes a tray fed an even number of times cancels.
-- Assumes nothing.
use mathlib.Core.Path.{◌≡◌, refl, sym, ap, ◌∙◌}
use mathlib.Core.List.{List}
use Prim.Native.Nat.{ℕ, ◌+◌, ◌*◌, ◌<◌}
use native.Mathlib.Nat.{one-mul}
use lib.ListN.{length, get_or}
use Rattle.lists.specs.Lists.{table}
use Rattle.lists.proofs.Tables.{table_length, table_at}
use Rattle.algebra.specs.Sum.{sum}
use Rattle.algebra.specs.Coding.{InRange}
use Rattle.algebra.specs.Shape.{Field}
use Rattle.algebra.specs.Plain.{Working}
use Rattle.algebra.specs.Erasure.{choose}
use Rattle.symbol.specs.Elem.{gf256}
use Rattle.symbol.proofs.Working.{working as working-256}
use Rattle.layout.specs.declared.Layout.{Layout}
use Rattle.layout.specs.Layout.{groups}
use Rattle.rule.specs.Rule.{tray_part}
use Rattle.share.specs.One.{share_refusal, share_buffer, add_refusal, add_buffer}
use Rattle.share.specs.Many.{shares_refusal, shares_buffer, fed_refusal, many_refusal, many_buffer, add_many_buffer, fed_buffer, part_at}
use Rattle.share.specs.Feeds.{count, odd, cleared, Feeds}
use Rattle.share.proofs.Refusals.{rack_shareable, symbols_range, one_refusal, one_add_refusal, buffer_done, many_done, add_many_done}
use Rattle.share.proofs.Weights.{one_shares, one_buffer, one_add_buffer}
use Rattle.share.proofs.Feeds.{feeds_sum, feeds_cancel}
use Rattle.share.proofs.OneShare.{feeds_share}

module _ {A : Type 0} {f : Field A} (W : Working f) (l : Layout) where
  -- with E = 0 the call for e shares is the one for either E
  pub shares_are : l.errors ≡ 0 → (e h i : ℕ) (rack out : List ℕ) → (many_buffer f l e h i rack out ≡ shares_buffer f l e h i rack out)
      × (many_refusal f l e h i rack (length out) ≡ shares_refusal f l e h i rack (length out))
  shares_are z e h i rack out =
      let p = many_done f l e h i rack out _ _ z refl refl in
      (sym p.1, sym p.0)

  -- a step of a list of feeds is what the calls leave
  pub feeds_are : l.errors ≡ 0 → (e h x : ℕ) (tray held : List ℕ) → fed_buffer f l e h x tray held ≡ add_many_buffer f l e h x tray held
  feeds_are z e h x tray held = (add_many_done f l e h x tray held _ _ z refl refl).1

  -- with e = 1 they are the calls for one share in document 01's words
  pub share_one : (h i : ℕ) (rack out : List ℕ) → (shares_refusal f l 1 h i rack (length out) ≡ share_refusal f l h i rack (length out))
      × (shares_buffer f l 1 h i rack out ≡ share_buffer f l h i rack out)
  share_one h i rack out = (one_refusal W l h i rack (length out), one_buffer f l W h i rack out)

  pub share_add_one : (h x : ℕ) (tray held : List ℕ) → (fed_refusal f l 1 h x tray held ≡ add_refusal f l h x tray held)
      × (fed_buffer f l 1 h x tray held ≡ add_buffer f l h x tray held)
  share_add_one h x tray held = (one_add_refusal W l h x tray held, one_add_buffer f l W h x tray held)

  cleared_long : length (cleared f l 1) ≡ 1 * groups l
  unfolding cleared
  cleared_long = table_length _ (1 * groups l)

  cleared_range : InRange f.coding (cleared f l 1)
  unfolding cleared
  cleared_range = record { at = λ n h. rw (table_at (λ n. f.coding.val f.ops.zero) (1 * groups l) n (rw cleared_long at h)) (W.field.coded.val_below _) }

  -- each tray fed once, in any order, gives document 01's share, with either E
  pub fed_once : (h i : ℕ) (rack out : List ℕ) → shares_refusal f l 1 h i rack (length out) ≡ 0 → (places held : List ℕ) →
      Feeds f l 1 h i rack (cleared f l 1) places held → ((g : ℕ) → g < l.size → count g places ≡ 1) → held ≡ shares_buffer f l 1 h i rack out
  fed_once h i rack out q places held feeds once =
      let p = rack_shareable W l 1 h i rack (length out) q in
      feeds_share W l p.adm h i p.host_in p.helper_in p.differ rack p.long (symbols_range f rack p.symbols_so) (cleared f l 1)
      (cleared_long ∙ one-mul (groups l)) cleared_range refl
      places held feeds once
      ∙ sym (one_shares f l h rack) ∙ buffer_done f l 1 h i rack out q

  pub fed_often : (e h i : ℕ) (rack start : List ℕ) → shares_refusal f l e h i rack (length start) ≡ 0 → InRange f.coding start → (places held : List ℕ) →
      Feeds f l e h i rack start places held → held ≡ table (λ n. f.coding.val (f.ops.add (f.coding.elem (get_or start n 0)) (sum f.ops l.size
      (λ g. sum f.ops (count g places) (λ k. part_at f l h (i * l.size + g) (tray_part l rack g) n))))) (e * groups l)
  fed_often e h i rack start z range places held feeds =
      let p = rack_shareable W l e h i rack (length start) z in
      feeds_sum W l e p.adm h i p.host_in p.helper_in p.some p.few p.differ rack p.long (symbols_range f rack p.symbols_so) start
      p.room_long range places held feeds

pub cancels : (l : Layout) (e h i : ℕ) (rack start : List ℕ) → shares_refusal gf256 l e h i rack (length start) ≡ 0 → InRange gf256.coding start → (places held : List ℕ) →
    Feeds gf256 l e h i rack start places held → held ≡ table (λ n. gf256.coding.val (gf256.ops.add (gf256.coding.elem (get_or start n 0)) (sum gf256.ops l.size
    (λ g. choose (odd (count g places)) (part_at gf256 l h (i * l.size + g) (tray_part l rack g) n) gf256.ops.zero)))) (e * groups l)
cancels l e h i rack start z range places held feeds =
    let p = rack_shareable working-256 l e h i rack (length start) z in
    feeds_cancel l e p.adm h i p.host_in p.helper_in p.some p.few p.differ rack p.long (symbols_range gf256 rack p.symbols_so) start
    p.room_long range places held feeds
