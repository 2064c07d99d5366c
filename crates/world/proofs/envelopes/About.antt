-- What messages are about, and which were sent.
use Rattle.std.specs.Prelude.{◌≡◌, ℕ, List, Contains}
use Rattle.logical_time.specs.Stamps.{TxnValue}
use Rattle.messages.specs.declared.body.Body.{Body}
use Rattle.messages.specs.declared.body.Body.TheVariants.{Begin, Prepare, Yes, Commit, At, NotBy, Check, Read as ReadNow, ReadAt, ReplBegin, ReplPart, Notify, PrepareRemote, DepCheck, DepOk, Done, PartNow, PartAt}
use Rattle.messages.specs.declared.envelope.Envelope.{Envelope}

-- a body with only the numbers that say what it is about
pub data Kind : Type 0 where
  OfBegin : (t : TxnValue) → Kind
  OfPrepare : (t : TxnValue) → Kind
  OfYes : (t : TxnValue) → Kind
  OfCommit : (t : TxnValue) → Kind
  OfAt : (t : TxnValue) → Kind
  OfNotBy : (t : TxnValue) (time : ℕ) → Kind
  OfCheck : (t : TxnValue) (time : ℕ) → Kind
  OfRead : (number : ℕ) → Kind
  OfReadAt : (number time : ℕ) → Kind
  OfReplBegin : (t : TxnValue) → Kind
  OfReplPart : (t : TxnValue) → Kind
  OfNotify : (t : TxnValue) → Kind
  OfPrepareRemote : (t : TxnValue) → Kind
  OfDepCheck : (dependency waiter : TxnValue) → Kind
  OfDepOk : (dependency waiter : TxnValue) → Kind
  OfDone : (t : TxnValue) → Kind
  OfPartNow : (number : ℕ) → Kind
  OfPartAt : (number time : ℕ) → Kind

abbrev pub kind_of : Body → Kind
kind_of (Begin t rows cohorts dependencies) = OfBegin t
kind_of (Prepare t rows coordinator) = OfPrepare t
kind_of (Yes t) = OfYes t
kind_of (Commit t commit stamp) = OfCommit t
kind_of (At t commit stamp) = OfAt t
kind_of (NotBy t time) = OfNotBy t time
kind_of (Check t time) = OfCheck t time
kind_of (ReadNow number read) = OfRead number
kind_of (ReadAt number time read) = OfReadAt number time
kind_of (ReplBegin cohorts t rows stamp dependencies) = OfReplBegin t
kind_of (ReplPart t rows stamp coordinator) = OfReplPart t
kind_of (Notify t) = OfNotify t
kind_of (PrepareRemote t) = OfPrepareRemote t
kind_of (DepCheck dependency waiter) = OfDepCheck dependency waiter
kind_of (DepOk dependency waiter commit) = OfDepOk dependency waiter
kind_of (Done t commit stamp) = OfDone t
kind_of (PartNow number rows) = OfPartNow number
kind_of (PartAt number time answer) = OfPartAt number time

-- such a message is in the list
pub record Sent (net : List Envelope) (sender receiver : ℕ) (kind : Kind) : Type 0 where
  pub message : Envelope
  pub among : Contains net message
  pub by : message.from ≡ sender
  pub for : message.to ≡ receiver
  pub is : kind_of message.body ≡ kind
