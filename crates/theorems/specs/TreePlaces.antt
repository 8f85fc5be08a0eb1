-- Pieces of a syntax tree with all their places in a text of N bytes, or at its end, and a property P of all their names.
use Rattle.std.specs.Prelude.{Bool, List, ℕ, ◌≤◌}
use Rattle.std.proofs.Math.Option.{Option, none, some}
use Rattle.rules.specs.Core.{Bin}
use Rattle.rules.specs.Tokens.{Token}
use Rattle.rules.specs.Syntax.{Name, Sign, Exp, named, whole, truth, paren, unary, binary, Con, con_bool, con_int, Label, label, Decl, Stm, assign_s, if_s, case_s, for_s, while_s, repeat_s, exit_s, Stms, empty, then, Branches, no_else, else_b, branch, Groups, no_other, else_g, group, Tree, name_of}
use Rattle.theorems.specs.TokenPlaces.{Each}

-- P: what is known of a name
pub record NameIn (N : ℕ) (P : Name → Type 0) (v : Name) : Type 0 where
  pub near : v.place ≤ N
  pub has : P v

-- a token with its place in the text, and the property of its letters (none, where it is no name)
pub record TokenIn (N : ℕ) (P : Name → Type 0) (t : Token) : Type 0 where
  pub near : t.place ≤ N
  pub has : P (name_of t)

pub data ExpIn (N : ℕ) (P : Name → Type 0) : Exp → Type 0 where
  i_named : {v : Name} → NameIn N P v → ExpIn N P (named v)
  i_whole : {p v : ℕ} → p ≤ N → ExpIn N P (whole p v)
  i_truth : {p : ℕ} {b : Bool} → p ≤ N → ExpIn N P (truth p b)
  i_paren : {p : ℕ} {a : Exp} → p ≤ N → ExpIn N P a → ExpIn N P (paren p a)
  i_unary : {p : ℕ} {s : Sign} {a : Exp} → p ≤ N → ExpIn N P a → ExpIn N P (unary p s a)
  i_binary : {p : ℕ} {o : Bin} {a b : Exp} → p ≤ N → ExpIn N P a → ExpIn N P b → ExpIn N P (binary p o a b)

pub data ConIn (N : ℕ) : Con → Type 0 where
  i_bool : {p : ℕ} {b : Bool} → p ≤ N → ConIn N (con_bool p b)
  i_int : {p q v : ℕ} {below : Bool} → p ≤ N → q ≤ N → ConIn N (con_int p below q v)

pub data MaybeIn (N : ℕ) : Option Con → Type 0 where
  i_none : MaybeIn N none
  i_some : {c : Con} → ConIn N c → MaybeIn N (some c)

pub data LabelIn (N : ℕ) : Label → Type 0 where
  i_label : {c : Con} {d : Option Con} → ConIn N c → MaybeIn N d → LabelIn N (label c d)

pub record DeclIn (N : ℕ) (P : Name → Type 0) (d : Decl) : Type 0 where
  pub name : NameIn N P d.name
  pub init : MaybeIn N d.init

mutual
  pub data StmIn (N : ℕ) (P : Name → Type 0) : Stm → Type 0 where
    i_assign : {v : Name} {e : Exp} → NameIn N P v → ExpIn N P e → StmIn N P (assign_s v e)
    i_if : {b : Branches} → BranchesIn N P b → StmIn N P (if_s b)
    i_case : {e : Exp} {g : Groups} → ExpIn N P e → GroupsIn N P g → StmIn N P (case_s e g)
    i_for : {v : Name} {a e : Exp} {c : Option Con} {l : Stms} → NameIn N P v → ExpIn N P a → ExpIn N P e → MaybeIn N c → StmsIn N P l → StmIn N P (for_s v a e c l)
    i_while : {c : Exp} {l : Stms} → ExpIn N P c → StmsIn N P l → StmIn N P (while_s c l)
    i_repeat : {l : Stms} {c : Exp} → StmsIn N P l → ExpIn N P c → StmIn N P (repeat_s l c)
    i_exit : {p : ℕ} → p ≤ N → StmIn N P (exit_s p)

  pub data StmsIn (N : ℕ) (P : Name → Type 0) : Stms → Type 0 where
    i_empty : StmsIn N P empty
    i_then : {s : Stm} {l : Stms} → StmIn N P s → StmsIn N P l → StmsIn N P (then s l)

  pub data BranchesIn (N : ℕ) (P : Name → Type 0) : Branches → Type 0 where
    i_no_else : BranchesIn N P no_else
    i_else_b : {l : Stms} → StmsIn N P l → BranchesIn N P (else_b l)
    i_branch : {c : Exp} {l : Stms} {b : Branches} → ExpIn N P c → StmsIn N P l → BranchesIn N P b → BranchesIn N P (branch c l b)

  pub data GroupsIn (N : ℕ) (P : Name → Type 0) : Groups → Type 0 where
    i_no_other : GroupsIn N P no_other
    i_else_g : {l : Stms} → StmsIn N P l → GroupsIn N P (else_g l)
    i_group : {ls : List Label} {l : Stms} {g : Groups} → Each (LabelIn N) ls → StmsIn N P l → GroupsIn N P g → GroupsIn N P (group ls l g)

pub record TreeIn (N : ℕ) (P : Name → Type 0) (t : Tree) : Type 0 where
  pub decls : Each (DeclIn N P) t.decls
  pub body : StmsIn N P t.body
