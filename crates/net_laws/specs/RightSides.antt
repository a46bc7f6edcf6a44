-- The right sides of the joins of a tree, and the tables of its scans.
use Rattle.std.specs.Prelude.{◌≡◌, ◌⊎◌, ℕ, List}
use Rattle.plan_trees.specs.TreeForms.{TreeForm, scan, values, remote, step, join, union}

-- a join of this id, with these pairs of columns and this right side, is in the tree
abbrev pub HasRight : TreeForm → ℕ → List (ℕ × ℕ) → TreeForm → Type 0
HasRight (scan id table columns types) at pairs side = ⊥
HasRight (values id types constants) at pairs side = ⊥
HasRight (remote id input) at pairs side = HasRight input at pairs side
HasRight (step id s input) at pairs side = HasRight input at pairs side
HasRight (join id kind on left right) at pairs side =
    ((id ≡ at) × (on ≡ pairs) × (right ≡ side)) ⊎ (HasRight left at pairs side ⊎ HasRight right at pairs side)
HasRight (union id left right) at pairs side = HasRight left at pairs side ⊎ HasRight right at pairs side

-- a scan of this id, of these columns of the table, is in the tree
abbrev pub HasTable : TreeForm → ℕ → ℕ → List ℕ → Type 0
HasTable (scan id table columns types) at place cut = (id ≡ at) × (table ≡ place) × (columns ≡ cut)
HasTable (values id types constants) at place cut = ⊥
HasTable (remote id input) at place cut = HasTable input at place cut
HasTable (step id s input) at place cut = HasTable input at place cut
HasTable (join id kind on left right) at place cut = HasTable left at place cut ⊎ HasTable right at place cut
HasTable (union id left right) at place cut = HasTable left at place cut ⊎ HasTable right at place cut
