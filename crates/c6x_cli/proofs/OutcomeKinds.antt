use Rattle.std.proofs.Common.{◌≡◌, ◌∙◌, ℕ, Bool, List, refl, sym, subst}
use Rattle.std.specs.Prelude.{Option, Some}
use Rattle.c6x_spec.specs.Memory.{Memory}
use Rattle.c6x_ports.specs.Chooser.{Chooser}
use Rattle.c6x_ports.specs.declared.kind.Kind.{Kind}
use Rattle.c6x_ports.specs.Shelf.{Shelved}
use Rattle.c6x_cli_steps.specs.Policies.{asked_kind}
use Rattle.c6x_cli_run.specs.Statuses.{IsOfKind, Performs}
use Rattle.c6x_cli_steps.specs.Stores.{KeepsWriteFaults}
use Rattle.c6x_cli_steps.specs.World.{World}
use Rattle.c6x_cli.specs.declared.prepared.Prepared.{Prepared}
use Rattle.c6x_cli.specs.declared.prepared.Prepared.TheVariants.{Dis as PreparedDis, Generate as PreparedGenerate, Map as PreparedMap, Run as PreparedRun, Show as PreparedShow, Store}
use Rattle.c6x_cli_words.specs.declared.request.Request.{Request}
use Rattle.c6x_cli.specs.Meaning.{asks, is_store, outcome_of, steps_of, HasPolicy}
use Rattle.c6x_cli_words.specs.Requests.{is_storing, kind_asked}

-- the outcome of a prepared command is of its kind
is_of_kind : (prepared : Prepared) (board : Memory) → IsOfKind (is_store prepared) board (outcome_of prepared board)
is_of_kind (PreparedDis file) board = refl
is_of_kind (PreparedShow file) board = refl
is_of_kind (PreparedMap loading) board = refl
is_of_kind (PreparedRun loading policy seed turns) board = refl
is_of_kind (PreparedGenerate number loading) board = refl
is_of_kind (Store name bytes) board = (name, (bytes, refl))

pub kind_of_outcome : (prepared : Prepared) (board : Memory) (storing : Bool) → is_store prepared ≡ storing → IsOfKind storing board (outcome_of prepared board)
kind_of_outcome prepared board storing is =
    subst (λ kind. IsOfKind kind board (outcome_of prepared board)) is (is_of_kind prepared board)

-- what a request performs, words with that reading perform
pub performs_read : (read : Option Request) (request : Request) (board : Memory) (status : ℕ) (before after : World) → read ≡ Some request → Performs (λ told. steps_of (Some request) told board) (is_storing (Some request)) (kind_asked (Some request)) status before after → Performs (λ told. steps_of read told board) (is_storing read) (kind_asked read) status before after
performs_read read request board status before after is performs =
    subst (λ r. Performs (λ told. steps_of r told board) (is_storing r) (kind_asked r) status before after) (sym is) performs

pub faults_of_kind : (prepared : Prepared) (storing : Bool) (before after : Shelved) → is_store prepared ≡ storing → KeepsWriteFaults (is_store prepared) before after → KeepsWriteFaults storing before after
faults_of_kind prepared storing before after is keeps = subst (λ kind. KeepsWriteFaults kind before after) is keeps

-- it asks the kind that the prepared command asks
asks_kind : (prepared : Prepared) (board : Memory) → asked_kind (outcome_of prepared board).asked ≡ asks prepared
asks_kind (PreparedDis file) board = refl
asks_kind (PreparedShow file) board = refl
asks_kind (PreparedMap loading) board = refl
asks_kind (PreparedRun loading policy seed turns) board = refl
asks_kind (PreparedGenerate number loading) board = refl
asks_kind (Store name bytes) board = refl

pub asks_of_outcome : (prepared : Prepared) (board : Memory) (asking : Option Kind) → asks prepared ≡ asking → asked_kind (outcome_of prepared board).asked ≡ asking
asks_of_outcome prepared board asking is = asks_kind prepared board ∙ is

pub policy_of_kind : (policies : List Chooser) (a b : Option Kind) → a ≡ b → HasPolicy b policies → HasPolicy a policies
policy_of_kind policies a b is there = subst (λ kind. HasPolicy kind policies) (sym is) there
