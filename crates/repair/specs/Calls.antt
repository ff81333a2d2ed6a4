-- Lists of repair calls over one spare, and what is claimed of every such list.
-- Assumes nothing.
use Rattle.std.specs.Prelude.{◌≡◌, List, ℕ, ◌+◌, ◌-◌, ◌*◌, ◌%◌, ◌<◌, ◌≤◌, length, get_or}
use Rattle.algebra.specs.Coding.{InRange}
use Rattle.algebra.specs.Shape.{Field}
use Rattle.layout.specs.declared.Layout.{Layout}
use Rattle.layout.specs.Layout.{layers, groups, traffic}
use Rattle.rule.specs.Rule.{group_at}
use Rattle.rule.specs.Lost.{first_lost, lost_part, SoundAlike, Ruled, Of}
use Rattle.repair.specs.declared.Repaired.TheVariants.{Done, Refused}
use Rattle.repair.specs.Repair.{SoundSymbols, report, RepairAnswer}

-- Calls .. G crossed to_come spare: a list of calls over a spare that was `start` at first and is `spare` now, with G groups done, `crossed` reported as
-- crossed in all and `to_come` reported last as still to come. Each step is what the repair call's own contract allows.
pub data Calls {A : Type 0} (f : Field A) (l : Layout) (lost helpers shares host start : List ℕ) : ℕ → ℕ → ℕ → List ℕ → Type 0 where
  none : Calls f l lost helpers shares host start 0 0 (length lost * traffic l) start
  -- a done call is over what was fixed (of the host rack the sound trays are) and has first group G
  done : {G crossed to_come : ℕ} {spare : List ℕ} → Calls f l lost helpers shares host start G crossed to_come spare →
      (budget : ℕ) (host' spare' : List ℕ) (g c t : ℕ) →
      ((j : ℕ) → j < layers l → SoundAlike f l lost j host host') →
      RepairAnswer f l lost helpers shares host' G budget spare spare' (Done g c t) →
      Calls f l lost helpers shares host start (G + (report (Done g c t)).groups) (crossed + (report (Done g c t)).crossed) (report (Done g c t)).remaining spare'
  -- a refused call is given anything besides the spare
  refused : {G crossed to_come : ℕ} {spare : List ℕ} → Calls f l lost helpers shares host start G crossed to_come spare →
      (l' : Layout) (lost' helpers' shares' host' : List ℕ) (first budget : ℕ) (spare' : List ℕ) (e : ℕ) →
      RepairAnswer f l' lost' helpers' shares' host' first budget spare spare' (Refused e) →
      Calls f l lost helpers shares host start G crossed to_come spare'

-- what one call with first group 0 and budget L/s answers and makes of a spare
pub record Uncut {A : Type 0} (f : Field A) (l : Layout) (lost helpers shares host spare : List ℕ) : Type 0 where
  pub written : List ℕ
  pub done : ℕ
  pub crossed : ℕ
  pub to_come : ℕ
  pub answer : RepairAnswer f l lost helpers shares host 0 (groups l) spare written (Done done crossed to_come)

-- the cutting claim
pub record Cut {A : Type 0} (f : Field A) (l : Layout) (lost helpers shares host start : List ℕ) (G crossed to_come : ℕ) (spare : List ℕ) : Type 0 where
  pub within : G ≤ groups l
  pub long : length spare ≡ length start
  -- the layers of groups 0 .. G - 1 hold what the rule fixes
  pub ruled : (p : ℕ) → p < G → Ruled f l lost helpers shares host p spare
  -- which is what one uncut call writes, over whatever other spare,
  pub uncut : (other : List ℕ) (one : Uncut f l lost helpers shares host other) → (i : ℕ) → i < length lost →
      (j : ℕ) → j < layers l → group_at l (first_lost l lost) j < G → get_or spare (i * layers l + j) 0 ≡ get_or one.written (i * layers l + j) 0
  -- and over each spare of e·L symbols there is such a call, where what was fixed are symbols
  pub uncut_is : length shares ≡ length lost * traffic l → length host ≡ l.size * layers l → InRange f.coding shares → SoundSymbols f l lost host →
      (other : List ℕ) → length other ≡ length lost * layers l → Uncut f l lost helpers shares host other
  -- every other symbol is the one it held at first
  pub kept : (n : ℕ) → n < length start → ¬ (group_at l (first_lost l lost) (n % layers l) < G) → get_or spare n 0 ≡ get_or start n 0
  -- with G = L/s and the shares and sound trays of a codeword, the spare holds that codeword's lost trays
  pub whole : G ≡ groups l → (c : List ℕ) → Of f l lost helpers shares host c → spare ≡ lost_part l lost c
  pub crossed_is : crossed ≡ length lost * (l.helpers * G)
  pub to_come_is : to_come ≡ length lost * (l.helpers * (groups l - G))
  pub adds_up : crossed + to_come ≡ length lost * traffic l

-- a done call over this layout, lost trays and helpers
pub record DoneCall {A : Type 0} (f : Field A) (l : Layout) (lost helpers : List ℕ) : Type 0 where
  pub shares : List ℕ
  pub host : List ℕ
  pub first : ℕ
  pub budget : ℕ
  pub old : List ℕ
  pub new : List ℕ
  pub done : ℕ
  pub crossed : ℕ
  pub to_come : ℕ
  pub answer : RepairAnswer f l lost helpers shares host first budget old new (Done done crossed to_come)

-- it does group p
abbrev pub Does : {A : Type 0} {f : Field A} {l : Layout} {lost helpers : List ℕ} → DoneCall f l lost helpers → ℕ → Type 0
Does call p = (call.first ≤ p) × (p < call.first + (report (Done call.done call.crossed call.to_come)).groups)
