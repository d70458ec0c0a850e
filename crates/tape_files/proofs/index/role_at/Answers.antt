-- Directories and their contents take turns.
use mathlib.Core.Path.{sym}
use Rattle.tape_files.proofs.Roles.{role_entered, role_outside, role_index, role_directory, role_contents}
use Rattle.tape_files.proofs.index.role_at.Goals as goal

pub returns-then-depth-eq0 : goal.returns-then-depth-eq0
returns-then-depth-eq0 c =
    role_entered _ _ c.is_named.result _ (role_outside _ _ c.is_named.result c.if-depth-eq0.true (sym c.is_named.ensures)) c.enter_if.ensures

pub returns-then-depth-eq1 : goal.returns-then-depth-eq1
returns-then-depth-eq1 c =
    role_entered _ _ c.is_named-then-depth-eq1.result _ (role_index _ _ c.is_named-then-depth-eq1.result c.if-depth-eq1.true (sym c.is_named-then-depth-eq1.ensures)) c.enter_if-then-depth-eq1.ensures

pub returns-then-depth-eq0-2 : goal.returns-then-depth-eq0-2
returns-then-depth-eq0-2 c =
    role_entered _ _ c.is_named-then-depth-eq0-2.result _ (role_directory _ _ c.is_named-then-depth-eq0-2.result c.if-depth-eq0.false c.if-depth-eq1.false c.if-depth-eq0-2.true (sym c.is_named-then-depth-eq0-2.ensures)) c.enter_if-then-depth-eq0-2.ensures

pub returns : goal.returns
returns c =
    role_contents c.args.depth _ c.use_in_contents.result c.if-depth-eq0.false c.if-depth-eq1.false c.if-depth-eq0-2.false c.use_in_contents.ensures
