-- A refusal that the list allows, and results that refuse in no other way.
use Rattle.std.specs.Prelude.{◌≡◌, Bool, true, false, ℕ, ◌≤◌}
use Rattle.std.proofs.Common.{subst, arith}
use Rattle.rules.specs.Base.{pick, Res, ok, refuse, ◌>>=◌, need}

-- N: the bytes of the text; n, p: the refusal's number and place
pub record Allowed (N n p : ℕ) : Type 0 where
  pub low : 1 ≤ n
  pub high : n ≤ 17
  pub near : p ≤ N

-- an answer with a property, or a refusal that is allowed
pub data Fine {A : Type 0} (N : ℕ) (Q : A → Type 0) : Res A → Type 0 where
  f_ok : {a : A} → Q a → Fine N Q (ok a)
  f_refuse : (n p : ℕ) → Allowed N n p → Fine N Q (refuse n p)

-- an answer that is there has the property
pub has : {A : Type 0} {N : ℕ} {Q : A → Type 0} {r : Res A} (a : A) → r ≡ ok a → Fine N Q r → Q a
has {Q} a e (f_ok {a = b} h) = let same : b ≡ a = cc in subst (λ y. Q y) same h
has a e (f_refuse n p h) = let z : ◌≡◌ {A = ℕ} 0 1 = cc in absurd (omega arith)

pub chain : {A B : Type 0} {N : ℕ} {P : A → Type 0} {Q : B → Type 0} {r : Res A} {f : A → Res B} → Fine N P r → ((a : A) → P a → Fine N Q (f a)) → Fine N Q (◌>>=◌ r f)
unfolding ◌>>=◌
chain (f_ok {a = a} h) k = k a h
chain (f_refuse n p h) k = f_refuse n p h

abbrev pub Any : {A : Type 0} → A → Type 0
Any a = Unit {0}

-- a first step of whose answer nothing is asked
pub after : {A B : Type 0} {N : ℕ} {Q : B → Type 0} {r : Res A} {f : A → Res B} → Fine N Any r → ((a : A) → Fine N Q (f a)) → Fine N Q (◌>>=◌ r f)
after h k = chain h (λ a _. k a)

pub needs : {N : ℕ} (b : Bool) (n p : ℕ) → Allowed N n p → Fine N Any (need b n p)
unfolding need
needs true n p h = f_ok tt
needs false n p h = f_refuse n p h

-- what holds of both parts of a choice holds of the choice
pub either : {A : Type 0} (P : A → Type 0) (d : Bool) {x y : A} → P x → P y → P (pick d (λ _. x) (λ _. y))
either P true h k = h
either P false h k = k
