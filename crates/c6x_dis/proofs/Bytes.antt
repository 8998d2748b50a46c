-- The bytes of atoms in a row.
use Rattle.std.proofs.Common.{◌≡◌, ℕ, List, [], ◌∷◌, ◌++◌, refl, sym, ◌∙◌, ap}
use Rattle.std.proofs.lemmas.List.{append-nil, append_assoc}
use Rattle.c6x_asm_lines.specs.declared.operand.Operand.{Operand}
use Rattle.c6x_dis.specs.Atoms.{Atom, atom_bytes, bytes_of}
use Rattle.c6x_dis.specs.Shown.{operand_atoms, operands_atoms}

pub bytes_joined : (xs ys : List Atom) → bytes_of (xs ++ ys) ≡ bytes_of xs ++ bytes_of ys
bytes_joined [] ys = refl
bytes_joined (x ∷ xs) ys = ap (λ r. atom_bytes x ++ r) (bytes_joined xs ys) ∙ sym (append_assoc (atom_bytes x) (bytes_of xs) (bytes_of ys))

pub one_bytes : (a : Operand) → bytes_of (operands_atoms (a ∷ [])) ≡ bytes_of (operand_atoms a)
one_bytes a = bytes_joined (operand_atoms a) [] ∙ append-nil (bytes_of (operand_atoms a))

pub comma_bytes : (a b : Operand) (more : List Operand) → bytes_of (operands_atoms (a ∷ b ∷ more)) ≡ bytes_of (operand_atoms a) ++ 44 ∷ bytes_of (operands_atoms (b ∷ more))
comma_bytes a b more = bytes_joined (operand_atoms a) _

pub pair_bytes : (a b : Operand) → bytes_of (operands_atoms (a ∷ b ∷ [])) ≡ bytes_of (operand_atoms a) ++ 44 ∷ bytes_of (operand_atoms b)
pair_bytes a b = comma_bytes a b [] ∙ ap (λ r. bytes_of (operand_atoms a) ++ 44 ∷ r) (one_bytes b)

-- bytes, a comma and bytes behind a line
pub joined_line : (old one two line xs ys : List ℕ) → one ≡ old ++ xs → two ≡ one ++ 44 ∷ [] → line ≡ two ++ ys → line ≡ old ++ (xs ++ 44 ∷ ys)
joined_line old one two line xs ys first comma second =
    second ∙ ap (λ l. l ++ ys) (comma ∙ ap (λ l. l ++ 44 ∷ []) first) ∙ append_assoc (old ++ xs) (44 ∷ []) ys ∙ append_assoc old xs (44 ∷ ys)
