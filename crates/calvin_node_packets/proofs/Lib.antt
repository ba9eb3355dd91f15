pub mod PacketSizes
mod Copies
mod MemberSteps
mod KeptPackets
