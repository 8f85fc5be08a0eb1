-- What the reader of statements accepts has at most 8 FORs nested, and at most 16 IFs, CASEs and loops.
use mathlib.Core.List as L
use Rattle.std.specs.Prelude.{◌≡◌, refl, Bool, true, false, ℕ, zero, suc, ◌+◌, ◌*◌, ◌<◌, ◌≤◌, max, eqb, ltb, length}
use Rattle.std.proofs.Common.{subst, arith, ltb→lt}
use Rattle.rules.specs.Limits.{nesting_limit, for_limit}
use Rattle.rules.specs.Base.{pick, ok}
use Rattle.rules.specs.Kinds.{NAME, IF, CASE, FOR, WHILE, EXIT, SEMI, ELSE, ELSIF}
use Rattle.rules.specs.Tokens.{Token}
use Rattle.rules.specs.Syntax.{Exp, Label, Stm, assign_s, if_s, case_s, for_s, while_s, repeat_s, exit_s, Stms, empty, then, Branches, no_else, else_b, branch, Groups, no_other, else_g, group, Read, got, bad, Reader, on_read, ◌>>=◌, ◌>>◌, give, next, when, whether, nested, expr, assignment, if_then, case_of, for_do, while_do, repeat_until, exit, labels, one_branch, one_group, one_more, statement, list, branches, groups, Tree, program, tree_of, parse}
use Rattle.theorems.specs.Levels.{only_fors}
use Rattle.theorems.specs.WellTyped.{ok_inj}

-- how deep statements are nested, counted as in a core program: a FOR is one level more than its list; up: what IF, CASE, WHILE and REPEAT are
module _ (up : ℕ → ℕ) where
  unfoldable mutual
    pub levels : Stm → ℕ
    levels (assign_s v e) = 0
    levels (if_s b) = up (levels_b b)
    levels (case_s e g) = up (levels_g g)
    levels (for_s v a e c l) = suc (levels_l l)
    levels (while_s c l) = up (levels_l l)
    levels (repeat_s l c) = up (levels_l l)
    levels (exit_s p) = 0

    pub levels_l : Stms → ℕ
    levels_l empty = 0
    levels_l (then s l) = max (levels s) (levels_l l)

    pub levels_b : Branches → ℕ
    levels_b no_else = 0
    levels_b (else_b l) = levels_l l
    levels_b (branch c l b) = max (levels_l l) (levels_b b)

    pub levels_g : Groups → ℕ
    levels_g no_other = 0
    levels_g (else_g l) = levels_l l
    levels_g (group ls l g) = max (levels_l l) (levels_g g)

-- whatever a reader reads has the property
record Always {A : Type 0} (Q : A → Type 0) (r : Reader A) : Type 0 where
  pub always : (ts us : L.List Token) (a : A) → r ts ≡ got a us → Q a

Any : {A : Type 0} → A → Type 0
Any a = Unit {0}

nothing : {A : Type 0} (n p : ℕ) (a : A) (us : L.List Token) {Q : Type 0} → bad n p ≡ got a us → Q
nothing n p a us e = let z : ◌≡◌ {A = ℕ} 0 1 = cc in absurd (omega arith)

-- two steps, and what is known of the first
after : {A B : Type 0} (P : A → Type 0) (Q : B → Type 0) (r : Read A) (f : A → Reader B) (us : L.List Token) (b : B)
    → ((ts : L.List Token) (a : A) → r ≡ got a ts → P a) → ((a : A) → P a → Always Q (f a)) → on_read r f ≡ got b us → Q b
unfolding on_read
after P Q (got a ts) f us b h k e = (k a (h ts a refl)).always ts us b e
after P Q (bad n p) f us b h k e = nothing n p b us e

bind : {A B : Type 0} {P : A → Type 0} {Q : B → Type 0} (m : Reader A) (f : A → Reader B) → Always P m → ((a : A) → P a → Always Q (f a)) → Always Q (◌>>=◌ m f)
unfolding ◌>>=◌
bind {P} {Q} m f h k = record { always = λ ts us b e. after P Q (m ts) f us b (λ vs a q. h.always ts vs a q) k e }

-- a first step of which nothing is asked
pass : {A B : Type 0} {Q : B → Type 0} (m : Reader A) (f : A → Reader B) → ((a : A) → Always Q (f a)) → Always Q (◌>>=◌ m f)
unfolding Any
pass m f k = bind {P = Any} m f (record { always = λ ts us a e. tt }) (λ a _. k a)

drop : {A B : Type 0} {Q : B → Type 0} (m : Reader A) (r : Reader B) → Always Q r → Always Q (◌>>◌ m r)
unfolding ◌>>◌ Any
drop {Q} m r k = record { always = λ ts us b e. after Any Q (m ts) (λ _. r) us b (λ vs a q. tt) (λ a _. k) e }

gives : {A : Type 0} {Q : A → Type 0} (a : A) → Q a → Always Q (give a)
unfolding give
gives {Q} a h = record { always = λ ts us b e. let q : a ≡ b = cc in subst (λ y. Q y) q h }

either : {A : Type 0} (Q : Type 0) (d : Bool) (x y : Unit {0} → Read A) (a : A) (us : L.List Token) → (x tt ≡ got a us → Q) → (y tt ≡ got a us → Q) → pick d x y ≡ got a us → Q
either Q true x y a us h k e = h e
either Q false x y a us h k e = k e

choice : {A : Type 0} {Q : A → Type 0} (k : ℕ) (a b : Reader A) → Always Q a → Always Q b → Always Q (when k a b)
unfolding when
choice {Q} k a b h g = record { always = λ ts us c e. either (Q c) (eqb (next ts).kind k) (λ _. a ts) (λ _. b ts) c us (λ q. h.always ts us c q) (λ q. g.always ts us c q) e }

whether_in : {A : Type 0} {Q : A → Type 0} (p : ℕ → Bool) (a b : Reader A) → Always Q a → Always Q b → Always Q (whether p a b)
unfolding whether
whether_in {Q} p a b h g = record { always = λ ts us c e. either (Q c) (p (next ts).kind) (λ _. a ts) (λ _. b ts) c us (λ q. h.always ts us c q) (λ q. g.always ts us c q) e }

under : {A : Type 0} {Q : A → Type 0} (n most p : ℕ) (a : Reader A) → (n < most → Always Q a) → Always Q (nested n most p a)
unfolding nested
under {A} {Q} n most p a h = record { always = λ ts us c e. by (ltb n most) refl ts us c e }
  where
    by : (d : Bool) → ltb n most ≡ d → (ts us : L.List Token) (c : A) → pick d (λ _. a ts) (λ _. bad 10 p) ≡ got c us → Q c
    by true w ts us c e = (h (ltb→lt n most (rw w tt))).always ts us c e
    by false w ts us c e = nothing 10 p c us e

-- a piece that keeps the limits where it stands. n: IF, CASE and loops around it; m: FORs around it; deep: how deep it is nested itself, for a way of counting
pub record Low (n m : ℕ) (deep : (ℕ → ℕ) → ℕ) : Type 0 where
  pub nests : n + deep suc ≤ nesting_limit
  pub fors : m + deep only_fors ≤ for_limit

abbrev InS : ℕ → ℕ → Stm → Type 0
InS n m s = Low n m (λ up. levels up s)

abbrev pub InL : ℕ → ℕ → Stms → Type 0
InL n m l = Low n m (λ up. levels_l up l)

abbrev InB : ℕ → ℕ → Branches → Type 0
InB n m b = Low n m (λ up. levels_b up b)

abbrev InG : ℕ → ℕ → Groups → Type 0
InG n m g = Low n m (λ up. levels_g up g)

-- the statements, from their parts
module _ (n m : ℕ) (few : n ≤ nesting_limit) (small : m ≤ for_limit) (exp : Reader Exp) where
  assign_in : Always (InS n m) (assignment exp)
  unfolding assignment levels
  assign_in = pass _ _ (λ v. drop _ _ (pass _ _ (λ e. gives _ (omega arith))))

  exit_in : Always (InS n m) exit
  unfolding exit levels
  exit_in = pass _ _ (λ t. gives _ (omega arith))

  if_in : {b : Reader Branches} → Always (InB (suc n) m) b → Always (InS n m) (if_then b)
  unfolding if_then levels
  if_in h = bind _ _ h (λ b q. drop _ _ (gives _ (omega arith)))

  case_in : {g : Reader Groups} → Always (InG (suc n) m) g → Always (InS n m) (case_of exp g)
  unfolding case_of levels
  case_in h = drop _ _ (pass _ _ (λ e. drop _ _ (bind _ _ h (λ g q. drop _ _ (gives _ (omega arith))))))

  for_in : {l : Reader Stms} → Always (InL (suc n) (suc m)) l → Always (InS n m) (for_do exp l)
  unfolding for_do levels
  for_in h = drop _ _ (pass _ _ (λ v. drop _ _ (pass _ _ (λ a. drop _ _ (pass _ _ (λ e. pass _ _ (λ c. drop _ _ (bind _ _ h (λ l q. drop _ _ (gives _ (omega arith)))))))))))

  while_in : {l : Reader Stms} → Always (InL (suc n) m) l → Always (InS n m) (while_do exp l)
  unfolding while_do levels
  while_in h = drop _ _ (pass _ _ (λ c. drop _ _ (bind _ _ h (λ l q. drop _ _ (gives _ (omega arith))))))

  repeat_in : {l : Reader Stms} → Always (InL (suc n) m) l → Always (InS n m) (repeat_until exp l)
  unfolding repeat_until levels
  repeat_in h = drop _ _ (bind _ _ h (λ l q. drop _ _ (pass _ _ (λ c. drop _ _ (gives _ (omega arith))))))

  branch_in : {l : Reader Stms} {b : Reader Branches} → Always (InL n m) l → Always (InB n m) b → Always (InB n m) (one_branch exp l b)
  unfolding one_branch levels
  branch_in h k = drop _ _ (pass _ _ (λ c. drop _ _ (bind _ _ h (λ l q. bind _ _ (choice ELSIF _ _ k (choice ELSE _ _ (drop _ _ (bind _ _ h (λ e r. gives _ (omega arith)))) (gives _ (omega arith)))) (λ b r. gives _ (omega arith))))))

  group_in : (ls : Reader (L.List Label)) {l : Reader Stms} {g : Reader Groups} → Always (InL n m) l → Always (InG n m) g → Always (InG n m) (one_group ls l g)
  unfolding one_group levels
  group_in ls h k = pass _ _ (λ _. drop _ _ (bind _ _ h (λ l q. bind _ _ (whether_in _ _ _ k (choice ELSE _ _ (drop _ _ (bind _ _ h (λ e r. gives _ (omega arith)))) (gives _ (omega arith)))) (λ b r. gives _ (omega arith)))))

  more_in : {s : Reader Stm} {l : Reader Stms} → Always (InS n m) s → Always (InL n m) l → Always (InL n m) (one_more s l)
  unfolding one_more levels
  more_in h k = bind _ _ h (λ s q. drop _ _ (bind _ _ k (λ l r. gives _ (omega arith))))

mutual
  unfolding statement levels

  stat_in : (f n m : ℕ) → n ≤ nesting_limit → m ≤ for_limit → Always (InS n m) (statement f n m)
  stat_in zero n m k h = record { always = λ ts us a e. nothing 5 0 a us e }
  stat_in (suc f) n m k h = record {
    always = λ ts us a e.
        (choice NAME _ _ (assign_in n m k h _)
        (choice EXIT _ _ (exit_in n m k h (expr f 0 1))
        (under n nesting_limit _ _ (λ w.
        choice IF _ _ (if_in n m k h (expr f 0 1) (bran_in f (suc n) m w h))
        (choice CASE _ _ (case_in n m k h _ (grp_in f (suc n) m w h))
        (choice FOR _ _ (under m for_limit _ _ (λ q. for_in n m k h _ (list_in f (suc n) (suc m) w q)))
        (choice WHILE _ _ (while_in n m k h _ (list_in f (suc n) m w h))
        (repeat_in n m k h _ (list_in f (suc n) m w h))))))))).always ts us a e;
  }

  list_in : (f n m : ℕ) → n ≤ nesting_limit → m ≤ for_limit → Always (InL n m) (list f n m)
  list_in zero n m k h = record { always = λ ts us a e. nothing 5 0 a us e }
  list_in (suc f) n m k h = record {
    always = λ ts us a e.
        (choice SEMI _ _ (drop _ _ (list_in f n m k h)) (whether_in _ _ _ (more_in n m k h (expr f 0 1) (stat_in f n m k h) (list_in f n m k h)) (gives empty (omega arith)))).always ts us a e;
  }

  bran_in : (f n m : ℕ) → n ≤ nesting_limit → m ≤ for_limit → Always (InB n m) (branches f n m)
  bran_in zero n m k h = record { always = λ ts us a e. nothing 5 0 a us e }
  bran_in (suc f) n m k h = record { always = λ ts us a e. (branch_in n m k h _ (list_in f n m k h) (bran_in f n m k h)).always ts us a e }

  grp_in : (f n m : ℕ) → n ≤ nesting_limit → m ≤ for_limit → Always (InG n m) (groups f n m)
  grp_in zero n m k h = record { always = λ ts us a e. nothing 5 0 a us e }
  grp_in (suc f) n m k h = record { always = λ ts us a e. (group_in n m k h (expr f 0 1) (labels f) (list_in f n m k h) (grp_in f n m k h)).always ts us a e }

-- the program

program_in : (f : ℕ) → Always (λ t. InL 0 0 t.body) (program f)
unfolding program
program_in f = drop _ _ (drop _ _ (pass _ _ (λ ds. bind _ _ (list_in f 0 0 (omega arith) (omega arith)) (λ l q. drop _ _ (drop _ _ (gives _ q))))))

-- the limits of nesting are kept in every tree that is read
pub parse_low : (ts : L.List Token) (t : Tree) → parse ts ≡ ok t → InL 0 0 t.body
unfolding parse tree_of
parse_low ts t e = by (program (4 * length ts) ts) refl e
  where
    by : (r : Read Tree) → program (4 * length ts) ts ≡ r → tree_of r ≡ ok t → InL 0 0 t.body
    by (got u us) w q = subst (λ y. InL 0 0 y.body) (ok_inj q) ((program_in (4 * length ts)).always ts us u w)
    by (bad n p) w q = let z : ◌≡◌ {A = ℕ} 0 1 = cc in absurd (omega arith)
