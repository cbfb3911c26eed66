-- What may move in a table that is ready for it.
use Rattle.std.proofs.Common.{◌≡◌, ◌≢◌, ◌⊎◌, inl, inr, [], ◌∷◌, ◌++◌, refl}
use Rattle.eden_model.specs.Trees.{Name, Path}
use Rattle.eden_tree.specs.Directory.{Row}
use Rattle.eden_coupling.specs.Moving.{CanMove}
use Rattle.inode_tests.specs.Places.{CanRename}

-- paths that are one have one last name, and one directory above it
one_last : (p q : Path) (n m : Name) → p ++ n ∷ [] ≡ q ++ m ∷ [] → (p ≡ q) × (n ≡ m)
one_last [] [] n m e = (refl, cc)
one_last [] (b ∷ []) n m e = absurd cc
one_last [] (b ∷ c ∷ q) n m e = absurd cc
one_last (a ∷ []) [] n m e = absurd cc
one_last (a ∷ c ∷ p) [] n m e = absurd cc
one_last (a ∷ p) (b ∷ q) n m e =
    let heads : a ≡ b = cc in
    let rest : p ++ n ∷ [] ≡ q ++ m ∷ [] = cc in
    let paths : p ≡ q = (one_last p q n m rest).0 in
    (cc, (one_last p q n m rest).1)

others : (p q : Path) (n m : Name) → (n ≢ m) ⊎ (p ≢ q) → p ++ n ∷ [] ≢ q ++ m ∷ []
others p q n m (inl other) = λ same. other (one_last p q n m same).1
others p q n m (inr other) = λ same. other (one_last p q n m same).0

pub can_move : (p : Path) (n : Name) (q : Path) (m : Name) (x : Row) → CanRename p n q m x → CanMove x p n q m
can_move p n q m x can = record {
  from = can.source.row;
  source = can.source.directory;
  entry = can.source.has.entry;
  at_from = can.source.at;
  holds_source = can.source.holds;
  own_from = can.source.own;
  there = can.source.has.there;
  unloaded = can.source.has.unloaded;
  to = can.target.row;
  target = can.target.directory;
  at_to = can.target.at;
  holds_target = can.target.holds;
  own_to = can.target.own;
  may_go = can.target.may_go;
  other = others p q n m can.other;
}
