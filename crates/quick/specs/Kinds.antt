-- Kinds whose rows are seen alike. Assumes nothing.
use Rattle.std.specs.Prelude.{ℕ, ◌≡◌, true, false, List, eqb, get_or}
use Rattle.meaning.specs.Bytes.{within}
use Rattle.meaning.specs.Types.{form_no, empty}
use Rattle.meaning.specs.Terms.{arity, head_from, words-from, none-used, an-n, kind_fields}
use Rattle.meaning.specs.Typing.{rule_ok}
use Rattle.rules.specs.Forms.{forms, three, FixedKind}
use Rattle.layout.specs.Forms.{says}

-- a kind that binds no name and is no future, whose rule asks only what at most three children state
pub record PlainKind (k : ℕ) : Type 0 where
  pub known : within 1 19 k ≡ true
  pub fixed : FixedKind k
  pub not-native : eqb k 6 ≡ false
  pub not-future : eqb k 9 ≡ false
  pub not-let : eqb k 19 ≡ false

-- one without children whose rule asks only a form of its type, and the range of its word
pub record LeafKind (k form least most : ℕ) : Type 0 where
  pub plain : PlainKind k
  pub none : (n w : ℕ) → arity (head_from k n w) ≡ 0
  pub asks : (types : List (List ℕ)) (ty n w : ℕ) → form_no (says types ty) ≡ form → rule_ok (forms types) empty (head_from k n w) ty (three (arity (head_from k n w)) 0 ty ty) ≡ true
  pub fields : get_or kind_fields k none-used ≡ record { n_low = 0; n_high = 0; words = words-from least most }

-- one of one child, and the range of its n
pub record OneChild (k low high : ℕ) : Type 0 where
  pub plain : PlainKind k
  pub one : (n w : ℕ) → arity (head_from k n w) ≡ 1
  pub fields : get_or kind_fields k none-used ≡ an-n low high
