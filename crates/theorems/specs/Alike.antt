-- Two readers that read alike: the same answers, and no more tokens left than a bound.
use Rattle.std.specs.Prelude.{◌≡◌, refl, Bool, true, false, List, [], ◌∷◌, ℕ, suc, ◌<◌, ◌≤◌, eqb, ltb, length}
use Rattle.std.proofs.Common.{arith}
use Rattle.rules.specs.Base.{pick}
use Rattle.rules.specs.Kinds.{FINISH}
use Rattle.rules.specs.Tokens.{Token, plain}
use Rattle.rules.specs.Syntax.{Read, got, bad, Reader, on_read, ◌>>=◌, ◌>>◌, give, next, rest, skip, take, when, whether, unexpected, nested}

-- one answer twice, with at most m tokens left
pub data Agree {A : Type 0} (m : ℕ) : Read A → Read A → Type 0 where
  agree_bad : {n p : ℕ} → Agree m (bad n p) (bad n p)
  agree_got : {a : A} {us : List Token} → length us ≤ m → Agree m (got a us) (got a us)

pub agree_same : {A : Type 0} {m : ℕ} {x y : Read A} → Agree m x y → x ≡ y
agree_same agree_bad = refl
agree_same (agree_got h) = refl

agree_more : {A : Type 0} {l m : ℕ} {x y : Read A} → l ≤ m → Agree l x y → Agree m x y
agree_more q agree_bad = agree_bad
agree_more q (agree_got {us} h) = agree_got {us = us} (omega arith)

-- from n tokens at most, the same answer with m left at most
pub record Alike {A : Type 0} (n m : ℕ) (r r' : Reader A) : Type 0 where
  pub alike : (ts : List Token) → length ts ≤ n → Agree m (r ts) (r' ts)

-- what holds from more tokens holds from fewer
pub weak : {A : Type 0} {n m : ℕ} {r r' : Reader A} → Alike (suc n) m r r' → Alike n m r r'
weak h = record { alike = λ ts q. h.alike ts (omega arith) }

-- One step after another

agree-bind : {A B : Type 0} {m l : ℕ} {x y : Read A} {f f' : A → Reader B} → Agree m x y → ((a : A) → Alike m l (f a) (f' a)) → Agree l (on_read x f) (on_read y f')
unfolding on_read
agree-bind agree_bad k = agree_bad
agree-bind (agree_got {a} {us} h) k = (k a).alike us h

pub bind : {A B : Type 0} {n m l : ℕ} {r r' : Reader A} {f f' : A → Reader B} → Alike n m r r' → ((a : A) → Alike m l (f a) (f' a)) → Alike n l (◌>>=◌ r f) (◌>>=◌ r' f')
unfolding ◌>>=◌
bind h k = record { alike = λ ts q. agree-bind (h.alike ts q) k }

pub thens : {A B : Type 0} {n m l : ℕ} {r r' : Reader A} {f f' : Reader B} → Alike n m r r' → Alike m l f f' → Alike n l (◌>>◌ r f) (◌>>◌ r' f')
unfolding ◌>>◌
thens h k = record { alike = λ ts q. agree-bind (h.alike ts q) (λ _. k) }

pub gives : {A : Type 0} {n : ℕ} (a : A) → Alike n n (give a) (give a)
unfolding give
gives a = record { alike = λ ts q. agree_got q }

pub stops : {A : Type 0} {n m : ℕ} → Alike n m (unexpected {A = A}) unexpected
unfolding unexpected
stops = record { alike = λ ts q. agree_bad }

-- One token

rest_less : (n : ℕ) (ts : List Token) → length ts ≤ suc n → length (rest ts) ≤ n
unfolding rest
rest_less n [] h = omega arith
rest_less n (t ∷ ts) h = omega arith

pub skips : {n : ℕ} → Alike (suc n) n skip skip
unfolding skip
skips {n} = record { alike = λ ts q. agree_got (rest_less n ts q) }

agree-pick : {A : Type 0} {m : ℕ} {x x' y y' : Read A} (d : Bool) → Agree m x x' → Agree m y y' → Agree m (pick d (λ _. x) (λ _. y)) (pick d (λ _. x') (λ _. y'))
agree-pick true h k = h
agree-pick false h k = k

pub takes : {n : ℕ} (k : ℕ) → Alike (suc n) n (take k) (take k)
unfolding take
takes {n} k = record { alike = λ ts q. agree-pick (eqb (next ts).kind k) (agree_got (rest_less n ts q)) agree_bad }

-- a token on the way, however many it leaves
pub past : {A : Type 0} {n m : ℕ} {r r' : Reader A} (k : ℕ) → Alike n m r r' → Alike n m (◌>>◌ (take k) r) (◌>>◌ (take k) r')
past k h = thens (weak (takes k)) h

-- A choice

pub either : {A : Type 0} {n m : ℕ} {a a' b b' : Reader A} (k : ℕ) → Alike n m a a' → Alike n m b b' → Alike n m (when k a b) (when k a' b')
unfolding when
either k h g = record { alike = λ ts q. agree-pick (eqb (next ts).kind k) (h.alike ts q) (g.alike ts q) }

pub under : {A : Type 0} {n m : ℕ} {a a' : Reader A} (d most p : ℕ) → Alike n m a a' → Alike n m (nested d most p a) (nested d most p a')
unfolding nested
under d most p h = record { alike = λ ts q. agree-pick (ltb d most) (h.alike ts q) agree_bad }

-- A choice that the end of the text fails: where it holds, there is a token, and fewer behind it

full : {A : Type 0} {n : ℕ} {a a' : Reader A} → ((l : ℕ) → l < n → Alike (suc l) l a a') → (t : Token) (ts : List Token) → length (t ∷ ts) ≤ n → Agree n (a (t ∷ ts)) (a' (t ∷ ts))
full h t ts q = agree_more (omega arith) ((h (length ts) q).alike (t ∷ ts) (omega arith))

pub tested : {A : Type 0} {n : ℕ} {a a' b b' : Reader A} (p : ℕ → Bool) → p FINISH ≡ false → ((l : ℕ) → l < n → Alike (suc l) l a a') → Alike n n b b' → Alike n n (whether p a b) (whether p a' b')
unfolding whether next plain
tested {A} {n} {a} {a'} {b} {b'} p e h g = record { alike = by }
  where
    by : (ts : List Token) → length ts ≤ n → Agree n (whether p a b ts) (whether p a' b' ts)
    by [] q = rw e (g.alike [] q)
    by (t ∷ ts) q = agree-pick (p t.kind) (full h t ts q) (g.alike (t ∷ ts) q)

pub ahead : {A : Type 0} {n : ℕ} {a a' b b' : Reader A} (k : ℕ) → eqb FINISH k ≡ false → ((l : ℕ) → l < n → Alike (suc l) l a a') → Alike n n b b' → Alike n n (when k a b) (when k a' b')
unfolding when whether
ahead k e h g = record { alike = λ ts q. (tested (λ x. eqb x k) e h g).alike ts q }
