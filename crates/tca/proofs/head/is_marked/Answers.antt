-- `tca::head::is_marked` meets its contract: byte by byte. Assumes nothing.
use mathlib.Core.Path.{sym}
use Rattle.tca.proofs.HeadLaws.{mark-first, mark-second, mark-third, mark-all}
use Rattle.tca.proofs.head.is_marked.Goals as goal

pub returns-then-file-ne84 : goal.returns-then-file-ne84
returns-then-file-ne84 c = sym (mark-first c.args.file.now c.if-file-ne84.true)

pub returns-then-file-ne67 : goal.returns-then-file-ne67
returns-then-file-ne67 c = sym (mark-second c.args.file.now c.if-file-ne84.false c.if-file-ne67.true)

pub returns-then-file-ne65 : goal.returns-then-file-ne65
returns-then-file-ne65 c = sym (mark-third c.args.file.now c.if-file-ne84.false c.if-file-ne67.false c.if-file-ne65.true)

pub returns : goal.returns
returns c = sym (mark-all c.args.file.now c.if-file-ne84.false c.if-file-ne67.false c.if-file-ne65.false)
