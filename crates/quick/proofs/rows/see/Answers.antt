-- A case for each kind. Assumes nothing.
use native.Mathlib.Omega.{arith}
use Rattle.quick.proofs.ByKind.{never, str-leaf, file-leaf, true-leaf, false-leaf, foreign-leaf, nil-leaf, isnil-one, zip-one, lproject-one}
use Rattle.quick.proofs.Places.{at-kind, type-there}
use Rattle.quick.proofs.rows.see.Goals as goal

pub returns-then-len-r : goal.returns-then-len-r
returns-then-len-r c = λ z. absurd (never c.refused.ensures z)

pub leaf-requires : goal.leaf-requires
leaf-requires c =
    let args = c.args in
    let row_at = c.row_at-r in
    let pre = c.requires in
    (1, at-kind args.rows.now args.p _ _ _ _ row_at.ensures 1 pre.0 pre.1 (rw c.in-Some-Text.field-0-is at c.in-Some-Text.ensures.number), str-leaf)

pub leaf-requires-in-Some-File : goal.leaf-requires-in-Some-File
leaf-requires-in-Some-File c =
    let args = c.args in
    let row_at = c.row_at-r in
    let pre = c.requires in
    (2, at-kind args.rows.now args.p _ _ _ _ row_at.ensures 2 pre.0 pre.1 (rw c.in-Some-File.field-0-is at c.in-Some-File.ensures.number), file-leaf)

pub leaf-requires-in-Some-True : goal.leaf-requires-in-Some-True
leaf-requires-in-Some-True c =
    let args = c.args in
    let row_at = c.row_at-r in
    let pre = c.requires in
    (3, at-kind args.rows.now args.p _ _ _ _ row_at.ensures 3 pre.0 pre.1 (rw c.in-Some-True.field-0-is at c.in-Some-True.ensures.number), true-leaf)

pub leaf-requires-in-Some-False : goal.leaf-requires-in-Some-False
leaf-requires-in-Some-False c =
    let args = c.args in
    let row_at = c.row_at-r in
    let pre = c.requires in
    (4, at-kind args.rows.now args.p _ _ _ _ row_at.ensures 4 pre.0 pre.1 (rw c.in-Some-False.field-0-is at c.in-Some-False.ensures.number), false-leaf)

pub variable-requires : goal.variable-requires
variable-requires c =
    let args = c.args in
    let row_at = c.row_at-r in
    let pre = c.requires in
    (at-kind args.rows.now args.p _ _ _ _ row_at.ensures 5 pre.0 pre.1 (rw c.in-Some-Variable.field-0-is at c.in-Some-Variable.ensures.number), pre.3)

pub native-requires : goal.native-requires
native-requires c =
    let args = c.args in
    let row_at = c.row_at-r in
    let pre = c.requires in
    (at-kind args.rows.now args.p _ _ _ _ row_at.ensures 6 pre.0 pre.1 (rw c.in-Some-Native.field-0-is at c.in-Some-Native.ensures.number), pre.2, pre.3)

pub leaf-requires-in-Some-Foreign : goal.leaf-requires-in-Some-Foreign
leaf-requires-in-Some-Foreign c =
    let args = c.args in
    let row_at = c.row_at-r in
    let pre = c.requires in
    (7, at-kind args.rows.now args.p _ _ _ _ row_at.ensures 7 pre.0 pre.1 (rw c.in-Some-Foreign.field-0-is at c.in-Some-Foreign.ensures.number), foreign-leaf)

pub apply-requires : goal.apply-requires
apply-requires c =
    let args = c.args in
    let row_at = c.row_at-r in
    let pre = c.requires in
    (at-kind args.rows.now args.p _ _ _ _ row_at.ensures 8 pre.0 pre.1 (rw c.in-Some-Apply.field-0-is at c.in-Some-Apply.ensures.number), pre.2)

pub future-requires : goal.future-requires
future-requires c =
    let args = c.args in
    let row_at = c.row_at-r in
    let pre = c.requires in
    at-kind args.rows.now args.p _ _ _ _ row_at.ensures 9 pre.0 pre.1 (rw c.in-Some-Future.field-0-is at c.in-Some-Future.ensures.number)

pub branch-types-requires : goal.branch-types-requires
branch-types-requires c =
    let args = c.args in
    let row_at = c.row_at-r in
    let pre = c.requires in
    (at-kind args.rows.now args.p _ _ _ _ row_at.ensures 10 pre.0 pre.1 (rw c.in-Some-If.field-0-is at c.in-Some-If.ensures.number), pre.2)

pub fix-requires : goal.fix-requires
fix-requires c =
    let args = c.args in
    let row_at = c.row_at-r in
    let pre = c.requires in
    at-kind args.rows.now args.p _ _ _ _ row_at.ensures 11 pre.0 pre.1 (rw c.in-Some-Fix.field-0-is at c.in-Some-Fix.ensures.number)

pub leaf-requires-in-Some-Nil : goal.leaf-requires-in-Some-Nil
leaf-requires-in-Some-Nil c =
    let args = c.args in
    let row_at = c.row_at-r in
    let pre = c.requires in
    (12, at-kind args.rows.now args.p _ _ _ _ row_at.ensures 12 pre.0 pre.1 (rw c.in-Some-Nil.field-0-is at c.in-Some-Nil.ensures.number), nil-leaf)

pub cons-requires : goal.cons-requires
cons-requires c =
    let args = c.args in
    let row_at = c.row_at-r in
    let pre = c.requires in
    (at-kind args.rows.now args.p _ _ _ _ row_at.ensures 13 pre.0 pre.1 (rw c.in-Some-Cons.field-0-is at c.in-Some-Cons.ensures.number), pre.2)

pub single-requires : goal.single-requires
single-requires c =
    let args = c.args in
    let row_at = c.row_at-r in
    let pre = c.requires in
    (14, at-kind args.rows.now args.p _ _ _ _ row_at.ensures 14 pre.0 pre.1 (rw c.in-Some-IsNil.field-0-is at c.in-Some-IsNil.ensures.number), isnil-one)

pub single-requires-in-Some-Zip : goal.single-requires-in-Some-Zip
single-requires-in-Some-Zip c =
    let args = c.args in
    let row_at = c.row_at-r in
    let pre = c.requires in
    (15, at-kind args.rows.now args.p _ _ _ _ row_at.ensures 15 pre.0 pre.1 (rw c.in-Some-Zip.field-0-is at c.in-Some-Zip.ensures.number), zip-one)

pub tuple-requires : goal.tuple-requires
tuple-requires c =
    let args = c.args in
    let row_at = c.row_at-r in
    let pre = c.requires in
    (at-kind args.rows.now args.p _ _ _ _ row_at.ensures 16 pre.0 pre.1 (rw c.in-Some-Tuple.field-0-is at c.in-Some-Tuple.ensures.number), pre.2)

pub project-requires : goal.project-requires
project-requires c =
    let args = c.args in
    let row_at = c.row_at-r in
    let pre = c.requires in
    at-kind args.rows.now args.p _ _ _ _ row_at.ensures 17 pre.0 pre.1 (rw c.in-Some-Project.field-0-is at c.in-Some-Project.ensures.number)

pub single-requires-in-Some-ListProject : goal.single-requires-in-Some-ListProject
single-requires-in-Some-ListProject c =
    let args = c.args in
    let row_at = c.row_at-r in
    let pre = c.requires in
    (18, at-kind args.rows.now args.p _ _ _ _ row_at.ensures 18 pre.0 pre.1 (rw c.in-Some-ListProject.field-0-is at c.in-Some-ListProject.ensures.number), lproject-one)

pub binder-requires : goal.binder-requires
binder-requires c =
    let args = c.args in
    let row_at = c.row_at-r in
    let pre = c.requires in
    (at-kind args.rows.now args.p _ _ _ _ row_at.ensures 19 pre.0 pre.1 (rw c.in-Some-Let.field-0-is at c.in-Some-Let.ensures.number), pre.2)

pub returns-in-Some-Text : goal.returns-in-Some-Text
returns-in-Some-Text c =
    let leaf = c.leaf in
    let args = c.args in
    let pre = c.requires in
    let row_at = c.row_at-r in
    let type-rows = c.len in
    let if1 = c.if-len-r in
    λ z. leaf.ensures z args.stack.now pre.2.within args.bound.now args.heads.now pre.3 _ (type-there args.rows.now args.p _ _ _ _ row_at.ensures _ pre.0 (omega (arith, type-rows.ensures, if1.false)))

pub returns-in-Some-File : goal.returns-in-Some-File
returns-in-Some-File c =
    let leaf2 = c.leaf-in-Some-File in
    let args = c.args in
    let pre = c.requires in
    let row_at = c.row_at-r in
    let type-rows = c.len in
    let if1 = c.if-len-r in
    λ z. leaf2.ensures z args.stack.now pre.2.within args.bound.now args.heads.now pre.3 _ (type-there args.rows.now args.p _ _ _ _ row_at.ensures _ pre.0 (omega (arith, type-rows.ensures, if1.false)))

pub returns-in-Some-True : goal.returns-in-Some-True
returns-in-Some-True c =
    let leaf3 = c.leaf-in-Some-True in
    let args = c.args in
    let pre = c.requires in
    let row_at = c.row_at-r in
    let type-rows = c.len in
    let if1 = c.if-len-r in
    λ z. leaf3.ensures z args.stack.now pre.2.within args.bound.now args.heads.now pre.3 _ (type-there args.rows.now args.p _ _ _ _ row_at.ensures _ pre.0 (omega (arith, type-rows.ensures, if1.false)))

pub returns-in-Some-False : goal.returns-in-Some-False
returns-in-Some-False c =
    let leaf4 = c.leaf-in-Some-False in
    let args = c.args in
    let pre = c.requires in
    let row_at = c.row_at-r in
    let type-rows = c.len in
    let if1 = c.if-len-r in
    λ z. leaf4.ensures z args.stack.now pre.2.within args.bound.now args.heads.now pre.3 _ (type-there args.rows.now args.p _ _ _ _ row_at.ensures _ pre.0 (omega (arith, type-rows.ensures, if1.false)))

pub returns-in-Some-Variable : goal.returns-in-Some-Variable
returns-in-Some-Variable c =
    let variable = c.variable in
    let args = c.args in
    let pre = c.requires in
    let row_at = c.row_at-r in
    let type-rows = c.len in
    let if1 = c.if-len-r in
    λ z. variable.ensures z args.types.now args.stack.now pre.2.within _ (type-there args.rows.now args.p _ _ _ _ row_at.ensures _ pre.0 (omega (arith, type-rows.ensures, if1.false)))

pub returns-in-Some-Native : goal.returns-in-Some-Native
returns-in-Some-Native c =
    let native = c.native in
    let args = c.args in
    let row_at = c.row_at-r in
    let pre = c.requires in
    let type-rows = c.len in
    let if1 = c.if-len-r in
    λ z. native.ensures z _ (type-there args.rows.now args.p _ _ _ _ row_at.ensures _ pre.0 (omega (arith, type-rows.ensures, if1.false)))

pub returns-in-Some-Foreign : goal.returns-in-Some-Foreign
returns-in-Some-Foreign c =
    let leaf5 = c.leaf-in-Some-Foreign in
    let args = c.args in
    let pre = c.requires in
    let row_at = c.row_at-r in
    let type-rows = c.len in
    let if1 = c.if-len-r in
    λ z. leaf5.ensures z args.stack.now pre.2.within args.bound.now args.heads.now pre.3 _ (type-there args.rows.now args.p _ _ _ _ row_at.ensures _ pre.0 (omega (arith, type-rows.ensures, if1.false)))

pub returns-in-Some-Apply : goal.returns-in-Some-Apply
returns-in-Some-Apply c =
    let apply = c.apply in
    let args = c.args in
    let pre = c.requires in
    let row_at = c.row_at-r in
    let type-rows = c.len in
    let if1 = c.if-len-r in
    λ z. apply.ensures z args.bound.now args.heads.now pre.3 _ (type-there args.rows.now args.p _ _ _ _ row_at.ensures _ pre.0 (omega (arith, type-rows.ensures, if1.false)))

pub returns-in-Some-Future : goal.returns-in-Some-Future
returns-in-Some-Future c =
    let future = c.future in
    let args = c.args in
    let pre = c.requires in
    let row_at = c.row_at-r in
    let type-rows = c.len in
    let if1 = c.if-len-r in
    λ z. future.ensures z args.types.now args.stack.now pre.2.within args.bound.now args.heads.now pre.3 _ (type-there args.rows.now args.p _ _ _ _ row_at.ensures _ pre.0 (omega (arith, type-rows.ensures, if1.false)))

pub returns-in-Some-If : goal.returns-in-Some-If
returns-in-Some-If c =
    let branch = c.branch-types in
    let args = c.args in
    let pre = c.requires in
    let row_at = c.row_at-r in
    let type-rows = c.len in
    let if1 = c.if-len-r in
    λ z. branch.ensures z args.bound.now args.heads.now pre.3 _ (type-there args.rows.now args.p _ _ _ _ row_at.ensures _ pre.0 (omega (arith, type-rows.ensures, if1.false)))

pub returns-in-Some-Fix : goal.returns-in-Some-Fix
returns-in-Some-Fix c =
    let fix = c.fix in
    let args = c.args in
    let pre = c.requires in
    let row_at = c.row_at-r in
    let type-rows = c.len in
    let if1 = c.if-len-r in
    λ z. fix.ensures z args.stack.now pre.2.within args.bound.now args.heads.now pre.3 _ (type-there args.rows.now args.p _ _ _ _ row_at.ensures _ pre.0 (omega (arith, type-rows.ensures, if1.false)))

pub returns-in-Some-Nil : goal.returns-in-Some-Nil
returns-in-Some-Nil c =
    let leaf6 = c.leaf-in-Some-Nil in
    let args = c.args in
    let pre = c.requires in
    let row_at = c.row_at-r in
    let type-rows = c.len in
    let if1 = c.if-len-r in
    λ z. leaf6.ensures z args.stack.now pre.2.within args.bound.now args.heads.now pre.3 _ (type-there args.rows.now args.p _ _ _ _ row_at.ensures _ pre.0 (omega (arith, type-rows.ensures, if1.false)))

pub returns-in-Some-Cons : goal.returns-in-Some-Cons
returns-in-Some-Cons c =
    let cons = c.cons in
    let args = c.args in
    let pre = c.requires in
    let row_at = c.row_at-r in
    let type-rows = c.len in
    let if1 = c.if-len-r in
    λ z. cons.ensures z args.bound.now args.heads.now pre.3 _ (type-there args.rows.now args.p _ _ _ _ row_at.ensures _ pre.0 (omega (arith, type-rows.ensures, if1.false)))

pub returns-in-Some-IsNil : goal.returns-in-Some-IsNil
returns-in-Some-IsNil c =
    let single = c.single in
    let args = c.args in
    let pre = c.requires in
    let row_at = c.row_at-r in
    let type-rows = c.len in
    let if1 = c.if-len-r in
    λ z. single.ensures z args.stack.now pre.2.within args.bound.now args.heads.now pre.3 _ (type-there args.rows.now args.p _ _ _ _ row_at.ensures _ pre.0 (omega (arith, type-rows.ensures, if1.false)))

pub returns-in-Some-Zip : goal.returns-in-Some-Zip
returns-in-Some-Zip c =
    let single2 = c.single-in-Some-Zip in
    let args = c.args in
    let pre = c.requires in
    let row_at = c.row_at-r in
    let type-rows = c.len in
    let if1 = c.if-len-r in
    λ z. single2.ensures z args.stack.now pre.2.within args.bound.now args.heads.now pre.3 _ (type-there args.rows.now args.p _ _ _ _ row_at.ensures _ pre.0 (omega (arith, type-rows.ensures, if1.false)))

pub returns-in-Some-Tuple : goal.returns-in-Some-Tuple
returns-in-Some-Tuple c =
    let tuple = c.tuple in
    let args = c.args in
    let pre = c.requires in
    let row_at = c.row_at-r in
    let type-rows = c.len in
    let if1 = c.if-len-r in
    λ z. tuple.ensures z args.bound.now args.heads.now pre.3 _ (type-there args.rows.now args.p _ _ _ _ row_at.ensures _ pre.0 (omega (arith, type-rows.ensures, if1.false)))

pub returns-in-Some-Project : goal.returns-in-Some-Project
returns-in-Some-Project c =
    let project = c.project in
    let args = c.args in
    let pre = c.requires in
    let row_at = c.row_at-r in
    let type-rows = c.len in
    let if1 = c.if-len-r in
    λ z. project.ensures z args.stack.now pre.2.within args.bound.now args.heads.now pre.3 _ (type-there args.rows.now args.p _ _ _ _ row_at.ensures _ pre.0 (omega (arith, type-rows.ensures, if1.false)))

pub returns-in-Some-ListProject : goal.returns-in-Some-ListProject
returns-in-Some-ListProject c =
    let single3 = c.single-in-Some-ListProject in
    let args = c.args in
    let pre = c.requires in
    let row_at = c.row_at-r in
    let type-rows = c.len in
    let if1 = c.if-len-r in
    λ z. single3.ensures z args.stack.now pre.2.within args.bound.now args.heads.now pre.3 _ (type-there args.rows.now args.p _ _ _ _ row_at.ensures _ pre.0 (omega (arith, type-rows.ensures, if1.false)))

pub returns-in-Some-Let : goal.returns-in-Some-Let
returns-in-Some-Let c =
    let binder = c.binder in
    let args = c.args in
    let pre = c.requires in
    let row_at = c.row_at-r in
    let type-rows = c.len in
    let if1 = c.if-len-r in
    λ z. binder.ensures z args.types.now args.bound.now args.heads.now pre.3 _ (type-there args.rows.now args.p _ _ _ _ row_at.ensures _ pre.0 (omega (arith, type-rows.ensures, if1.false)))

pub returns-in-None : goal.returns-in-None
returns-in-None c = λ z. absurd (never c.refused-in-None.ensures z)
