-- The reply: a status and the one line or text that is put.
use Rattle.std.specs.Prelude.{Err, List, Ok, Option, codes, false, true, ℕ, ◌≡◌, ◌⊎◌}
use Rattle.mb_desk.specs.Decision.{Decided, Scene}
use Rattle.mb_desk.specs.Ends.{Ended, Ends}
use Rattle.mb_desk.specs.Refusals.{refusal_line, status_of}
use Rattle.mb_desk.specs.World.{World}
use Rattle.mb_desk.specs.declared.plans.Plan.{Plan}
use Rattle.mb_desk.specs.declared.plans.Stop.TheVariants.{Memory, Outside, Refused}
use Rattle.mb_desk.specs.declared.status.Status.{Status}
use Rattle.mb_desk.specs.declared.status.Status.TheVariants as statuses
use Rattle.mb_outside.specs.Causes.{HasCause}
use Rattle.mb_outside.specs.Sink.{Grows, GrowsByFront}

-- how a call ends, and what it puts
pub record Reply : Type 0 where
  pub status : Status
  pub text : List ℕ

-- a status and a text
abbrev pub reply : Status → List ℕ → Reply
reply status text = record { status = status; text = text }

-- the reply to words that are no request
abbrev pub no_request : Reply
no_request = reply statuses.Words (codes "refused Words\n")

-- the reply to how the work ended: the whole answer, or one refusal line
abbrev pub reply_to : Ended → Reply
reply_to (Ok answer) = reply statuses.Done answer
reply_to (Err Memory) = reply statuses.Memory (codes "refused Memory\n")
reply_to (Err Outside) = reply statuses.Outside (codes "refused Outside\n")
reply_to (Err (Refused refusal)) = reply (status_of refusal) (refusal_line refusal)

-- a refusal
abbrev pub IsRefused : Ended → Type 0
IsRefused (Err (Refused refusal)) = Unit {0}
IsRefused (Err Memory) = ⊥
IsRefused (Err Outside) = ⊥
IsRefused (Ok answer) = ⊥

-- the replies to how the work ended: its own, or that of want of memory where there was none for
-- the line of a refusal
abbrev pub MayReply : Ended → Reply → Type 0
MayReply ended reply =
    (reply ≡ reply_to ended) ⊎ (IsRefused ended × (reply ≡ reply_to (Err Memory)))

-- the reply is put whole, and its status is answered
abbrev pub PutsWhole : Option (List ℕ) → Option (List ℕ) → ℕ → ℕ → Reply → Status → Type 0
PutsWhole before after failed_before failed_after reply status =
    (status ≡ reply.status) × Grows before after reply.text
    × HasCause failed_before failed_after false

-- or the put fails: the count of the sink's faults rises, a front of the text is put, and the
-- status is that of a fault
abbrev pub PutsFront : Option (List ℕ) → Option (List ℕ) → ℕ → ℕ → Reply → Status → Type 0
PutsFront before after failed_before failed_after reply status =
    (status ≡ statuses.Outside) × GrowsByFront before after reply.text
    × HasCause failed_before failed_after true

-- what becomes of a reply
abbrev pub Puts : Option (List ℕ) → Option (List ℕ) → ℕ → ℕ → Reply → Status → Type 0
Puts before after failed_before failed_after reply status =
    PutsWhole before after failed_before failed_after reply status
    ⊎ PutsFront before after failed_before failed_after reply status

-- the work of a request ended, and the reply to that was put
abbrev pub EndsAndPuts : Scene → Scene → (World → Decided Plan) → Option (List ℕ) →
    Option (List ℕ) → ℕ → ℕ → Status → Type 0
EndsAndPuts before after decide taken_before taken_after failed_before failed_after status =
    (ended : Ended) × Ends before after decide ended
    × Puts taken_before taken_after failed_before failed_after (reply_to ended) status
