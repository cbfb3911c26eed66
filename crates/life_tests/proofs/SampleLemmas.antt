-- The sample objects agree with the sample repository.
use Rattle.std.proofs.Common.{◌≡◌, ◌≢◌, ℕ, length, None, get_or, arith, List, [], ◌∷◌, ◌++◌, Some, refl, sym, ◌∙◌, subst, ap}
use Rattle.std.specs.Prelude.{codes}
use Rattle.std.specs.Fmt.{digits}
use Rattle.eden_model.specs.declared.id.Id.{Id}
use Rattle.eden_model.specs.declared.tree_entry.TreeEntry.{TreeEntry}
use Rattle.eden_model.specs.Names.{name_refusal}
use Rattle.eden_object.specs.declared.word.Word.TheVariants as word
use Rattle.eden_object.specs.Frames.{frame}
use Rattle.eden_object.specs.Laws.{OneFrame, OneList}
use Rattle.eden_object.specs.Objects.{IsHonest}
use Rattle.eden_object.specs.Trees.{AreEntries, IsTreeBody, spelled_mode}
use Rattle.life_tests.specs.Samples.{sample, version_1, version_2, new_file, one_file, two_files, file, bak, one_file_entries, two_files_entries}

blob_is_honest : OneFrame → (id : Id) (framed content : List ℕ) → framed ≡ frame word.Blob content → sample.blob id ≡ Some content → IsHonest sample id framed
blob_is_honest one_frame id framed content is has = record {
  blob = λ digest other e. has ∙ ap Some (one_frame word.Blob word.Blob content other (sym is ∙ e)).1;
  tree = λ digest other es e body. let differ = (one_frame word.Blob word.Tree content other (sym is ∙ e)).0 in cc;
}

tree_is_honest : OneFrame → OneList → (id : Id) (framed body : List ℕ) (es : List TreeEntry) → framed ≡ frame word.Tree body → IsTreeBody es body → sample.tree id ≡ Some es
    → IsHonest sample id framed
tree_is_honest one_frame one_list id framed body es is grammar has = record {
  blob = λ digest other e. let differ = (one_frame word.Tree word.Blob body other (sym is ∙ e)).0 in cc;
  tree = λ digest other fs e other_grammar.
      let same : body ≡ other = (one_frame word.Tree word.Tree body other (sym is ∙ e)).1 in
      has ∙ ap Some (one_list es fs other (subst (IsTreeBody es) same grammar) other_grammar);
}

-- ---- blobs

pub version_1_is_honest : OneFrame → IsHonest sample version_1 (codes "blob 10" ++ 0 ∷ codes "version 1\n")
unfolding digits
version_1_is_honest one_frame = blob_is_honest one_frame version_1 _ (codes "version 1\n") refl refl

pub version_2_is_honest : OneFrame → IsHonest sample version_2 (codes "blob 10" ++ 0 ∷ codes "version 2\n")
unfolding digits
version_2_is_honest one_frame = blob_is_honest one_frame version_2 _ (codes "version 2\n") refl refl

pub new_file_is_honest : OneFrame → IsHonest sample new_file (codes "blob 9" ++ 0 ∷ codes "new file\n")
unfolding digits
new_file_is_honest one_frame = blob_is_honest one_frame new_file _ (codes "new file\n") refl refl

-- ---- trees

-- an entry's text, of a mode that is spelled so
abbrev text_of : List ℕ → TreeEntry → List ℕ
text_of mode e = mode ++ 32 ∷ e.name ++ 0 ∷ e.id.bytes

one_more : (mode : List ℕ) (e : TreeEntry) (es : List TreeEntry) (rest : List ℕ) → spelled_mode mode ≡ Some e.mode → name_refusal e.name ≡ None → length e.id.bytes ≡ 20
    → AreEntries es rest → AreEntries (e ∷ es) (text_of mode e ++ rest)
one_more mode e es rest spelled name id others =
    (text_of mode e, rest, record { mode = mode; spelled = spelled; name = name; id = id; is = refl }, others, refl)

abbrev pub one_file_body : List ℕ
one_file_body = text_of (codes "100644") (file (codes "test.txt") version_1) ++ []

one_file_is_body : IsTreeBody one_file_entries one_file_body
one_file_is_body = record {
  entries = one_more (codes "100644") (file (codes "test.txt") version_1) [] [] refl refl refl refl;
  differ = (tt, tt);
}

pub one_file_is_honest : OneFrame → OneList → IsHonest sample one_file (codes "tree 36" ++ 0 ∷ one_file_body)
unfolding digits
one_file_is_honest one_frame one_list = tree_is_honest one_frame one_list one_file _ one_file_body one_file_entries refl one_file_is_body refl

-- the texts of the files of the second tree
abbrev file_texts : List ℕ
file_texts = text_of (codes "100644") (file (codes "new.txt") new_file) ++ text_of (codes "100644") (file (codes "test.txt") version_2) ++ []

files_are_entries : AreEntries (file (codes "new.txt") new_file ∷ file (codes "test.txt") version_2 ∷ []) file_texts
files_are_entries =
    let last = one_more (codes "100644") (file (codes "test.txt") version_2) [] [] refl refl refl refl in
    one_more (codes "100644") (file (codes "new.txt") new_file) (file (codes "test.txt") version_2 ∷ []) (text_of (codes "100644") (file (codes "test.txt") version_2) ++ []) refl refl refl last

abbrev pub two_files_body : List ℕ
two_files_body = text_of (codes "40000") bak ++ file_texts

two_files_are_entries : AreEntries two_files_entries two_files_body
two_files_are_entries = one_more (codes "40000") bak (file (codes "new.txt") new_file ∷ file (codes "test.txt") version_2 ∷ []) file_texts refl refl refl files_are_entries

-- texts with other first letters
other_start : (n m : List ℕ) → get_or n 0 0 ≢ get_or m 0 0 → n ≢ m
other_start n m differ = λ same. differ (ap (λ t. get_or t 0 0) same)

two_files_is_body : IsTreeBody two_files_entries two_files_body
two_files_is_body = record {
  entries = two_files_are_entries;
  differ = (
    (other_start (codes "new.txt") (codes "bak") (λ h. absurd (omega (arith, h))), (other_start (codes "test.txt") (codes "bak") (λ h. absurd (omega (arith, h))), tt)),
    ((other_start (codes "test.txt") (codes "new.txt") (λ h. absurd (omega (arith, h))), tt), (tt, tt)),
  );
}

pub two_files_is_honest : OneFrame → OneList → IsHonest sample two_files (codes "tree 101" ++ 0 ∷ two_files_body)
unfolding digits
two_files_is_honest one_frame one_list = tree_is_honest one_frame one_list two_files _ two_files_body two_files_entries refl two_files_is_body refl
