-- The powers of the root and their logarithms: the two tables of src/, their rule and their inverse relation, each proved by one test that antt computes.
-- Assumes nothing.
use Rattle.std.proofs.Common.{◌≡◌, ℕ, zero, suc, ◌*◌, ◌/◌, ◌%◌, ◌<◌, Bool, true, T, eqb, ltb, List, [], ◌∷◌, length, get_or, sym, refl, ap, ◌∙◌, ap₂, suc-mul, div-add-mod', zero-add, zero-mul, arith, lit<, eqb→eq, ltb→lt}
use Rattle.symbol.specs.Arithmetic.{◌⊕◌, root, mulz, shift_add, ◌⊗◌, zpow}
use Rattle.lists.proofs.Computed.{both, both_left, both_right, every, chain, at, run}
use Rattle.symbol.proofs.Power.{zpow_zero, zpow_suc, zpow_lt, zpow_add}
use Rattle.symbol.proofs.Laws.{one_⊗}

unfoldable pub powers : List ℕ
powers =
    1 ∷ 2 ∷ 4 ∷ 8 ∷ 16 ∷ 32 ∷ 64 ∷ 128 ∷ 29 ∷ 58 ∷ 116 ∷ 232 ∷ 205 ∷ 135 ∷ 19 ∷ 38 ∷
    76 ∷ 152 ∷ 45 ∷ 90 ∷ 180 ∷ 117 ∷ 234 ∷ 201 ∷ 143 ∷ 3 ∷ 6 ∷ 12 ∷ 24 ∷ 48 ∷ 96 ∷ 192 ∷
    157 ∷ 39 ∷ 78 ∷ 156 ∷ 37 ∷ 74 ∷ 148 ∷ 53 ∷ 106 ∷ 212 ∷ 181 ∷ 119 ∷ 238 ∷ 193 ∷ 159 ∷ 35 ∷
    70 ∷ 140 ∷ 5 ∷ 10 ∷ 20 ∷ 40 ∷ 80 ∷ 160 ∷ 93 ∷ 186 ∷ 105 ∷ 210 ∷ 185 ∷ 111 ∷ 222 ∷ 161 ∷
    95 ∷ 190 ∷ 97 ∷ 194 ∷ 153 ∷ 47 ∷ 94 ∷ 188 ∷ 101 ∷ 202 ∷ 137 ∷ 15 ∷ 30 ∷ 60 ∷ 120 ∷ 240 ∷
    253 ∷ 231 ∷ 211 ∷ 187 ∷ 107 ∷ 214 ∷ 177 ∷ 127 ∷ 254 ∷ 225 ∷ 223 ∷ 163 ∷ 91 ∷ 182 ∷ 113 ∷ 226 ∷
    217 ∷ 175 ∷ 67 ∷ 134 ∷ 17 ∷ 34 ∷ 68 ∷ 136 ∷ 13 ∷ 26 ∷ 52 ∷ 104 ∷ 208 ∷ 189 ∷ 103 ∷ 206 ∷
    129 ∷ 31 ∷ 62 ∷ 124 ∷ 248 ∷ 237 ∷ 199 ∷ 147 ∷ 59 ∷ 118 ∷ 236 ∷ 197 ∷ 151 ∷ 51 ∷ 102 ∷ 204 ∷
    133 ∷ 23 ∷ 46 ∷ 92 ∷ 184 ∷ 109 ∷ 218 ∷ 169 ∷ 79 ∷ 158 ∷ 33 ∷ 66 ∷ 132 ∷ 21 ∷ 42 ∷ 84 ∷
    168 ∷ 77 ∷ 154 ∷ 41 ∷ 82 ∷ 164 ∷ 85 ∷ 170 ∷ 73 ∷ 146 ∷ 57 ∷ 114 ∷ 228 ∷ 213 ∷ 183 ∷ 115 ∷
    230 ∷ 209 ∷ 191 ∷ 99 ∷ 198 ∷ 145 ∷ 63 ∷ 126 ∷ 252 ∷ 229 ∷ 215 ∷ 179 ∷ 123 ∷ 246 ∷ 241 ∷ 255 ∷
    227 ∷ 219 ∷ 171 ∷ 75 ∷ 150 ∷ 49 ∷ 98 ∷ 196 ∷ 149 ∷ 55 ∷ 110 ∷ 220 ∷ 165 ∷ 87 ∷ 174 ∷ 65 ∷
    130 ∷ 25 ∷ 50 ∷ 100 ∷ 200 ∷ 141 ∷ 7 ∷ 14 ∷ 28 ∷ 56 ∷ 112 ∷ 224 ∷ 221 ∷ 167 ∷ 83 ∷ 166 ∷
    81 ∷ 162 ∷ 89 ∷ 178 ∷ 121 ∷ 242 ∷ 249 ∷ 239 ∷ 195 ∷ 155 ∷ 43 ∷ 86 ∷ 172 ∷ 69 ∷ 138 ∷ 9 ∷
    18 ∷ 36 ∷ 72 ∷ 144 ∷ 61 ∷ 122 ∷ 244 ∷ 245 ∷ 247 ∷ 243 ∷ 251 ∷ 235 ∷ 203 ∷ 139 ∷ 11 ∷ 22 ∷
    44 ∷ 88 ∷ 176 ∷ 125 ∷ 250 ∷ 233 ∷ 207 ∷ 131 ∷ 27 ∷ 54 ∷ 108 ∷ 216 ∷ 173 ∷ 71 ∷ 142 ∷ []

unfoldable pub logs : List ℕ
logs =
    0 ∷ 0 ∷ 1 ∷ 25 ∷ 2 ∷ 50 ∷ 26 ∷ 198 ∷ 3 ∷ 223 ∷ 51 ∷ 238 ∷ 27 ∷ 104 ∷ 199 ∷ 75 ∷
    4 ∷ 100 ∷ 224 ∷ 14 ∷ 52 ∷ 141 ∷ 239 ∷ 129 ∷ 28 ∷ 193 ∷ 105 ∷ 248 ∷ 200 ∷ 8 ∷ 76 ∷ 113 ∷
    5 ∷ 138 ∷ 101 ∷ 47 ∷ 225 ∷ 36 ∷ 15 ∷ 33 ∷ 53 ∷ 147 ∷ 142 ∷ 218 ∷ 240 ∷ 18 ∷ 130 ∷ 69 ∷
    29 ∷ 181 ∷ 194 ∷ 125 ∷ 106 ∷ 39 ∷ 249 ∷ 185 ∷ 201 ∷ 154 ∷ 9 ∷ 120 ∷ 77 ∷ 228 ∷ 114 ∷ 166 ∷
    6 ∷ 191 ∷ 139 ∷ 98 ∷ 102 ∷ 221 ∷ 48 ∷ 253 ∷ 226 ∷ 152 ∷ 37 ∷ 179 ∷ 16 ∷ 145 ∷ 34 ∷ 136 ∷
    54 ∷ 208 ∷ 148 ∷ 206 ∷ 143 ∷ 150 ∷ 219 ∷ 189 ∷ 241 ∷ 210 ∷ 19 ∷ 92 ∷ 131 ∷ 56 ∷ 70 ∷ 64 ∷
    30 ∷ 66 ∷ 182 ∷ 163 ∷ 195 ∷ 72 ∷ 126 ∷ 110 ∷ 107 ∷ 58 ∷ 40 ∷ 84 ∷ 250 ∷ 133 ∷ 186 ∷ 61 ∷
    202 ∷ 94 ∷ 155 ∷ 159 ∷ 10 ∷ 21 ∷ 121 ∷ 43 ∷ 78 ∷ 212 ∷ 229 ∷ 172 ∷ 115 ∷ 243 ∷ 167 ∷ 87 ∷
    7 ∷ 112 ∷ 192 ∷ 247 ∷ 140 ∷ 128 ∷ 99 ∷ 13 ∷ 103 ∷ 74 ∷ 222 ∷ 237 ∷ 49 ∷ 197 ∷ 254 ∷ 24 ∷
    227 ∷ 165 ∷ 153 ∷ 119 ∷ 38 ∷ 184 ∷ 180 ∷ 124 ∷ 17 ∷ 68 ∷ 146 ∷ 217 ∷ 35 ∷ 32 ∷ 137 ∷ 46 ∷
    55 ∷ 63 ∷ 209 ∷ 91 ∷ 149 ∷ 188 ∷ 207 ∷ 205 ∷ 144 ∷ 135 ∷ 151 ∷ 178 ∷ 220 ∷ 252 ∷ 190 ∷ 97 ∷
    242 ∷ 86 ∷ 211 ∷ 171 ∷ 20 ∷ 42 ∷ 93 ∷ 158 ∷ 132 ∷ 60 ∷ 57 ∷ 83 ∷ 71 ∷ 109 ∷ 65 ∷ 162 ∷
    31 ∷ 45 ∷ 67 ∷ 216 ∷ 183 ∷ 123 ∷ 164 ∷ 118 ∷ 196 ∷ 23 ∷ 73 ∷ 236 ∷ 127 ∷ 12 ∷ 111 ∷ 246 ∷
    108 ∷ 161 ∷ 59 ∷ 82 ∷ 41 ∷ 157 ∷ 85 ∷ 170 ∷ 251 ∷ 96 ∷ 134 ∷ 177 ∷ 187 ∷ 204 ∷ 62 ∷ 90 ∷
    203 ∷ 89 ∷ 95 ∷ 176 ∷ 156 ∷ 169 ∷ 160 ∷ 81 ∷ 11 ∷ 245 ∷ 22 ∷ 235 ∷ 122 ∷ 117 ∷ 44 ∷ 215 ∷
    79 ∷ 174 ∷ 213 ∷ 233 ∷ 230 ∷ 231 ∷ 173 ∷ 232 ∷ 116 ∷ 214 ∷ 244 ∷ 234 ∷ 168 ∷ 80 ∷ 88 ∷ 175 ∷ []

-- the logarithm of a symbol
unfoldable pub log : ℕ → ℕ
log x = get_or logs x 0

times_root : ℕ → ℕ
times_root x = root ⊗ x

-- a logarithm is below 255, and the power there is the symbol
inverse_at : ℕ → ℕ → Bool
inverse_at zero l = true
inverse_at (suc k) l = both (ltb l 255) (eqb (get_or powers l 0) (suc k))

-- a power is not zero, and its logarithm is its place
place_at : ℕ → ℕ → Bool
place_at k x = both (ltb 0 x) (eqb (log x) k)

-- the one test: each power is z times the one before, and the tables are inverse to one another
tables_hold : T (both (chain times_root 1 powers) (both (every inverse_at 0 logs) (every place_at 0 powers)))
unfolding times_root inverse_at place_at powers logs log ◌⊗◌ shift_add mulz ◌⊕◌
tables_hold = tt

abbrev rule_test : Bool
rule_test = chain times_root 1 powers

abbrev inverse_test : Bool
inverse_test = every inverse_at 0 logs

abbrev place_test : Bool
place_test = every place_at 0 powers

-- each power is z times the one before
pub powers_rule : (i : ℕ) → i < 255 → get_or powers i 0 ≡ zpow i
powers_rule i h =
    run times_root zpow zpow_step powers 0 1 (sym zpow_zero) (both_left rule_test (both inverse_test place_test) tables_hold) i long ∙ ap zpow (zero-add i)
  where
    zpow_step : (i : ℕ) → zpow (suc i) ≡ times_root (zpow i)
    zpow_step = unfold times_root in zpow_suc

    long : i < length powers
    long = unfold powers in h

inverse_holds : (x : ℕ) → 0 < x → x < 256 → T (both (ltb (log x) 255) (eqb (get_or powers (log x) 0) x))
unfolding inverse_at logs log
inverse_holds zero p h = absurd (omega arith)
inverse_holds (suc k) p h =
    at inverse_at logs (both_left inverse_test place_test (both_right rule_test (both inverse_test place_test) tables_hold)) (suc k) h

place_holds : (i : ℕ) → i < 255 → T (both (ltb 0 (get_or powers i 0)) (eqb (log (get_or powers i 0)) i))
unfolding place_at powers
place_holds i h = at place_at powers (both_right inverse_test place_test (both_right rule_test (both inverse_test place_test) tables_hold)) i h

pub log_lt : {x : ℕ} → 0 < x → x < 256 → log x < 255
log_lt {x} p h = ltb→lt (log x) 255 (both_left (ltb (log x) 255) (eqb (get_or powers (log x) 0) x) (inverse_holds x p h))

pub zpow_log : {x : ℕ} → 0 < x → x < 256 → zpow (log x) ≡ x
zpow_log {x} p h =
    sym (powers_rule (log x) (log_lt p h))
    ∙ eqb→eq (get_or powers (log x) 0) x (both_right (ltb (log x) 255) (eqb (get_or powers (log x) 0) x) (inverse_holds x p h))

pub log_zpow : {i : ℕ} → i < 255 → log (zpow i) ≡ i
log_zpow {i} h =
    ap log (sym (powers_rule i h))
    ∙ eqb→eq (log (get_or powers i 0)) i (both_right (ltb 0 (get_or powers i 0)) (eqb (log (get_or powers i 0)) i) (place_holds i h))

-- the powers of the root below 255 are all different
pub zpow_inj : {i j : ℕ} → i < 255 → j < 255 → zpow i ≡ zpow j → i ≡ j
zpow_inj hi hj e = sym (log_zpow hi) ∙ ap log e ∙ log_zpow hj

-- and after 255 they start again
pub zpow_order : zpow 255 ≡ 1
unfolding ◌⊗◌ shift_add mulz ◌⊕◌
zpow_order = zpow_suc 254 ∙ ap (λ (x : ℕ). 2 ⊗ x) (sym (powers_rule 254 (lit< tt)) ∙ last)
  where
    last : get_or powers 254 0 ≡ 142
    last = unfold powers in refl

pub zpow_turns : (q : ℕ) → zpow (q * 255) ≡ 1
zpow_turns zero = ap zpow (zero-mul 255) ∙ zpow_zero
zpow_turns (suc q) =
    ap zpow (suc-mul q 255) ∙ zpow_add (q * 255) 255 ∙ ap₂ ◌⊗◌ (zpow_turns q) zpow_order ∙ one_⊗ (lit< tt)

pub zpow_mod : (i : ℕ) → zpow (i % 255) ≡ zpow i
zpow_mod i =
    sym (one_⊗ (zpow_lt (i % 255))) ∙ ap (λ (x : ℕ). x ⊗ zpow (i % 255)) (sym (zpow_turns (i / 255)))
    ∙ sym (zpow_add (i / 255 * 255) (i % 255)) ∙ ap zpow (div-add-mod' i 255)
