-- `settle::settle_term` meets its contract: the rows before the first future stand, the tail is written from the work buffer. Assumes nothing.
use Prim.Native.Nat.{ℕ, ◌*◌, ◌-◌}
use mathlib.Core.Path.{refl, ap, ◌∙◌}
use native.Mathlib.Omega.{arith}
use lib.ListN.{length, take, drop, replicate}
use Rattle.layout.specs.Rows.{row_table}
use Rattle.settle.specs.Settled.{settled}
use Rattle.settle.proofs.Copies.{all-cleared, first-within, rows-count, space-settled}
use Rattle.settle.proofs.settle_term.Goals as goal

pub slice_bounds-settle_rows-count : goal.slice_bounds-settle_rows-count
slice_bounds-settle_rows-count c =
    let a = c.args in
    let asked = c.requires.fitting in
    let first-due = c.first_due-first in
    let fw = first-within a.space.now a.used first-due.result a.number (row_table a.value.now) asked.used-within asked.used-rows first-due.ensures in
    let p = asked in omega arith

pub slice_bounds-settle_rows-start : goal.slice_bounds-settle_rows-start
slice_bounds-settle_rows-start c =
    let a = c.args in
    let asked = c.requires.fitting in
    let first-due = c.first_due-first in
    let fw = first-within a.space.now a.used first-due.result a.number (row_table a.value.now) asked.used-within asked.used-rows first-due.ensures in
    let p = asked in omega arith

pub returns : goal.returns
returns c =
    let a = c.args in
    let asked = c.requires.fitting in
    let first-due = c.first_due-first in
    let settle-rows = c.settle_rows-n in
    let fw = first-within a.space.now a.used first-due.result a.number (row_table a.value.now) asked.used-within asked.used-rows first-due.ensures in
    let p = asked in
    let rc = rows-count a.space.now a.used first-due.result a.number (row_table a.value.now) asked.used-within asked.used-rows first-due.ensures (settled a.number (row_table a.value.now) (row_table (take (a.used - 8 * first-due.result) (drop (8 * first-due.result) a.space.now)))) refl in record { rows = omega (arith, settle-rows.ensures.0); bytes = space-settled a.space.now a.used first-due.result a.number (row_table a.value.now) asked.used-within asked.used-rows first-due.ensures (settled a.number (row_table a.value.now) (row_table (take (a.used - 8 * first-due.result) (drop (8 * first-due.result) a.space.now)))) refl (λ j. omega (arith, c.slice_known-1.given j)) a.work.now settle-rows.new.work _ _ settle-rows.result settle-rows.ensures.0 (omega arith) settle-rows.ensures.1 c.copy_to.ensures; cleared = all-cleared settle-rows.new.work _ (length settle-rows.new.work) refl c.clear.ensures ∙ ap (λ (j : ℕ). replicate j 0) settle-rows.auto.work }
