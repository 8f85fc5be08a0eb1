-- What is refused is refused with a number of the list and a place in the text.
use Rattle.std.specs.Prelude.{◌≡◌, refl, Bool, true, false, List, ℕ, ◌≤◌, leb, length}
use Rattle.std.proofs.Common.{arith}
use Rattle.std.proofs.Math.Dec.{nleb→lt}
use Rattle.rules.specs.Base.{Res, need}
use Rattle.rules.specs.Limits.{text_limit}
use Rattle.rules.specs.Core.{Program}
use Rattle.rules.specs.Compile.{front, compiled, refused, answer, compile}
use Rattle.theorems.specs.Refusals.{Allowed, Fine, f_ok, f_refuse, chain, Any, after, needs}
use Rattle.theorems.specs.TokenPlaces.{tokens_in}
use Rattle.theorems.specs.ReadPlaces.{parse_in}
use Rattle.theorems.specs.WalkPlaces.{walk_fine}

front_fine : (text : List ℕ) → Fine (length text) Any (front text)
unfolding front
front_fine text = chain (tokens_in text) (λ ts h. chain (parse_in ts h) (λ tree k. walk_fine _ _ k))

-- a text that is too long has a byte at the limit
long_fine : (N : ℕ) → Fine N Any (need (leb N text_limit) 1 text_limit)
unfolding need
long_fine N = by (leb N text_limit) refl
  where
    by : (d : Bool) → leb N text_limit ≡ d → Fine N Any (need d 1 text_limit)
    by true e = f_ok tt
    by false e = let h = nleb→lt N text_limit (rw e tt) in f_refuse 1 text_limit (omega arith)

compiled_fine : (lent capacity : ℕ) (text : List ℕ) → Fine (length text) Any (compiled lent capacity text)
unfolding compiled
compiled_fine lent capacity text =
    after (needs _ _ _ (omega arith)) (λ _. after (long_fine (length text)) (λ _. after (front_fine text) (λ _. after (needs _ _ _ (omega arith)) (λ _. after (needs _ _ _ (omega arith)) (λ _. f_ok tt)))))

answer-allowed : {N : ℕ} {r : Res Program} (n p : ℕ) → Fine N Any r → answer r ≡ refused n p → Allowed N n p
unfolding answer
answer-allowed n p (f_ok _) e = let z : ◌≡◌ {A = ℕ} 0 1 = cc in absurd (omega arith)
answer-allowed n p (f_refuse m q h) e = let a : m ≡ n = cc in let b : q ≡ p = cc in omega arith

pub listed : (lent capacity : ℕ) (text : List ℕ) (n p : ℕ) → compile lent capacity text ≡ refused n p → (1 ≤ n) × (n ≤ 17) × (p ≤ length text)
unfolding compile
listed lent capacity text n p e = let h = answer-allowed n p (compiled_fine lent capacity text) e in omega arith
